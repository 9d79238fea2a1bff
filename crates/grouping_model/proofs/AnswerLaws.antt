-- What is known after a list of batches is what is listed, and the same batches known give the same answer.
use Rattle.std.specs.Prelude.{◌≡◌, List, Contains, IsTrue, ◌↔◌}
use Rattle.std.proofs.Common.{sym, ◌∙◌, ap}
use Rattle.grouping_model.specs.Query.{Query}
use Rattle.grouping_model.specs.World.{World, Batch, batch_cmp_total, Knowledge, knowing, knows}
use Rattle.grouping_model.specs.Answer.{answer}
use Rattle.grouping_model.specs.MemberLaws.{from_contains, to_contains, among_member}
use Rattle.grouping_model.specs.KnowledgeLaws.{batch_cmp_ties, knows_knowing, same_knowledge}

-- a batch is known after a list of batches exactly if it is listed
pub knowing_listed : (batches : List Batch) (batch : Batch) → IsTrue (knows (knowing batches) batch) ↔ Contains batches batch
knowing_listed batches batch = (
  λ known. to_contains batches batch ((among_member batch_cmp_total batch_cmp_ties batches batch).0 (sym (knows_knowing batches batch)
      ∙ known)),
  λ listed. knows_knowing batches batch ∙ (among_member batch_cmp_total batch_cmp_ties batches batch).1
      (from_contains batches batch listed),
)

-- the same batches known, the same answer
pub same_answer : (query : Query) (world : World) (a b : Knowledge) → ((batch : Batch) → knows a batch ≡ knows b batch)
    → answer query world a ≡ answer query world b
same_answer query world a b same = ap (answer query world) (same_knowledge a b same)
