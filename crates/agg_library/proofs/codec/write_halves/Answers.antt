use Rattle.std.proofs.Common.{◌≡◌, ◌/◌, ◌%◌, ◌^◌, [], ◌++◌, drop, ap, ◌∙◌, arith, append-nil}
use Rattle.std.proofs.lemmas.List.{drop_all}
use Rattle.std.specs.Int.{bytes_high_first}
use Rattle.agg_library.proofs.Halves.{halves}
use Rattle.agg_library.proofs.codec.write_halves.Goals as goal

pub returns : goal.returns
returns c =
    let first = c.split_at_mut-high.result.0.now in let second = c.split_at_mut-high.result.1.now in
    let high = bytes_high_first 8 (c.args.bits / 2 ^ 64) in let low = bytes_high_first 8 (c.args.bits % 2 ^ 64) in
    let none : drop 8 first ≡ [] = drop_all 8 first (omega (arith, c.split_at_mut-high.ensures.front_len)) in
    let nothing : drop 8 second ≡ [] = drop_all 8 second (omega (arith, c.split_at_mut-high.ensures.back_len, c.requires)) in
    let front : c.write_u64.new.buf ≡ high = c.write_u64.ensures ∙ ap (λ rest. high ++ rest) none ∙ append-nil high in
    let back : c.write_u64-2.new.buf ≡ low = c.write_u64-2.ensures ∙ ap (λ rest. low ++ rest) nothing ∙ append-nil low in
    (λ i. front i ++ back i) ∙ halves c.args.bits
