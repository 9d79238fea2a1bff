use Rattle.std.specs.Prelude.{◌≡◌, map, take, string_bytes}
use Rattle.having_filter.proofs.Words.{items_of, label_of}
use Rattle.having_filter.proofs.texts.labels_of.Given as goal

abbrev pub invariant-loop-item : goal.invariant-loop-item
invariant-loop-item l = map string_bytes l.labels.items ≡ map label_of (items_of (take l.item-index l.items))
