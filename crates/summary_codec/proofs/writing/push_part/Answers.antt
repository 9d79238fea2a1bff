use Rattle.std.specs.Prelude.{◌≡◌, ◌++◌, length, List, ℕ, flat_map}
use Rattle.std.specs.Int.{bytes_high_first}
use Rattle.std.proofs.Common.{ap, ◌∙◌}
use Rattle.summary_codec.specs.File.{batch_bytes, group_bytes, part_bytes}
use Rattle.summary_codec.proofs.WriteLaws.{says, behind}
use Rattle.summary_codec.proofs.writing.push_part.Goals as goal

pub returns : goal.returns
unfolding part_bytes
returns c =
    let part = c.args.part.now in
    let out = c.args.out.now.items in
    let origin : List ℕ = bytes_high_first 2 c.args.origin in
    let prefix : List ℕ = bytes_high_first 4 part.prefix in
    let groups : List ℕ = bytes_high_first 8 (length part.run) in
    let run : List ℕ = flat_map group_bytes part.run in
    let batches : List ℕ = bytes_high_first 4 (length part.early) in
    let early : List ℕ = flat_map batch_bytes part.early in
    let new = c.push_batches.new.out.items in
    let first : c.push_number.new.out.items ≡ out ++ origin = c.in_ok-push_number.ensures
    ∙ ap (λ n. out ++ bytes_high_first 2 n) c.from.ensures in
    let second = behind out origin _ _ _ prefix first c.in_ok-push_number-2.ensures (ap (bytes_high_first 4) (c.from-2.ensures
    ∙ c.prefix.ensures)) in
    let third = behind out (origin ++ prefix) _ _ _ groups second c.in_ok-push_number-3.ensures
    (ap (bytes_high_first 8) (c.len.ensures.length ∙ ap length c.run.ensures)) in
    let fourth = behind out (origin ++ prefix ++ groups) _ _ _ run third c.in_ok-push_groups.ensures
    (ap (flat_map group_bytes) c.run-2.ensures) in
    let fifth = behind out (origin ++ prefix ++ groups ++ run) _ _ _ batches fourth c.in_ok-push_number-4.ensures
    (ap (bytes_high_first 4) (c.len-2.ensures.len ∙ ap length c.early.ensures)) in
    says c.push_batches.result (new ≡ c.push_number-4.new.out.items ++ flat_map batch_bytes c.early-2.result.now.entries) (new ≡ out
    ++ part_bytes (c.args.origin, part)) c.push_batches.ensures
    (λ last. behind out (origin ++ prefix ++ groups ++ run ++ batches) _ _ _ early fifth last (ap (flat_map batch_bytes) c.early-2.ensures))
