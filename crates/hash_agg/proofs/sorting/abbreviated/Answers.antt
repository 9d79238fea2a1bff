use Rattle.std.proofs.Common.{◌≡◌, arith}
use Rattle.byteorder.specs.Endian.{big_from}
use Rattle.hash_agg.proofs.sorting.abbreviated.Goals as goal

pub returns-clause-abbreviated : goal.returns-clause-abbreviated
returns-clause-abbreviated c =
    let first = c.byte_at.ensures in
    let second = c.byte_at-2.ensures in
    let third = c.byte_at-3.ensures in
    let fourth = c.byte_at-4.ensures in
    let fifth = c.byte_at-5.ensures in
    let sixth = c.byte_at-6.ensures in
    let seventh = c.byte_at-7.ensures in
    let eighth = c.byte_at-8.ensures in
    let whole = c.from_be_bytes-first.ensures in
    let number : c.from_be_bytes-first.result
    ≡ big_from 0 8 c.args.key.now = omega (arith, whole, first, second, third, fourth, fifth, sixth, seventh, eighth) in
    record { number = number; bytes = λ i. (c.type_inv.key i).fits }
