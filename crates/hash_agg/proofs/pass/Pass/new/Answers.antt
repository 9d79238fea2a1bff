use Rattle.hash_agg.proofs.TableLaws.{finds_same}
use Rattle.hash_agg.proofs.pass.Pass.new.Goals as goal

-- src/pass.rt:62:5
pub returns-clause-seed : goal.returns-clause-seed
returns-clause-seed g c = finds_same c.in_ok-groups.groups c.seed.result c.args.means.now.seed c.seed.ensures c.in_ok-groups.ensures.finds
