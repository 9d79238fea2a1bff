use Rattle.std.proofs.Common.{Contains, refl, lit<}
use Rattle.agg_protocol.specs.Kinds.{kinds}
use Rattle.agg_protocol.specs.declared.kind.AggKind.{AggKind}
use Rattle.agg_protocol.specs.declared.kind.AggKind.TheVariants.{CountRows, Count, Sum, Min, Max, BitAnd, BitOr, BitXor, BoolAnd, BoolOr}
use Rattle.agg_protocol.specs.declared.kind.AggKind.TheVariants.{Every}
use Rattle.agg_protocol.proofs.kind.all_functions.Goals as goal

there : (kind : AggKind) → Contains kinds kind
there CountRows = (0, lit< tt, refl)
there Count = (1, lit< tt, refl)
there Sum = (2, lit< tt, refl)
there Min = (3, lit< tt, refl)
there Max = (4, lit< tt, refl)
there BitAnd = (5, lit< tt, refl)
there BitOr = (6, lit< tt, refl)
there BitXor = (7, lit< tt, refl)
there BoolAnd = (8, lit< tt, refl)
there BoolOr = (9, lit< tt, refl)
there Every = (10, lit< tt, refl)

pub returns-clause-every : goal.returns-clause-every
returns-clause-every c = there
