-- README's first script, and what the promise says of it: README's output is right, and no other without a refusal is. All of this is
-- our own.
use Rattle.std.specs.Prelude.{ℕ, ◌≡◌, ◌++◌, false, List, codes}
use Rattle.std.specs.List.{AllByRecursion}
use Rattle.script_machine.specs.Exact.{IsExactOutput}
use Rattle.script_machine.specs.Headline.{IsRightOutput}
use Rattle.script_machine.specs.Machine.{is_refused}

-- the script, as in examples/first.script
abbrev pub first_script : List ℕ
first_script =
    codes "columns,\"shop text, amount bigint\"\n"
    ++ codes "query,\"select shop, count(*), sum(amount) from batches group by shop\"\n"
    ++ codes "replica,north\n"
    ++ codes "feed,north,0,2,1\n"
    ++ codes "bergen,7\n"
    ++ codes "feed,north,0,1,1\n"
    ++ codes "oslo,5\n"
    ++ codes "answer,north\n"

-- and its output, as in examples/first.out
abbrev pub first_output : List ℕ
first_output =
    codes "columns 2\n"
    ++ codes "query SELECT shop, count(*), sum(amount) FROM batches GROUP BY shop\n"
    ++ codes "replica north\n"
    ++ codes "early\n"
    ++ codes "folded upto 2\n"
    ++ codes "answer 2\n"
    ++ codes "shop,count,sum\n"
    ++ codes "bergen,1,7\n"
    ++ codes "oslo,1,5\n"

-- this output is right, to the byte, and no other without a refusal is
pub record HasFirstOutput : Type 0 where
  pub right : IsExactOutput first_script first_output
  pub only : (output : List ℕ) (is : IsRightOutput first_script output)
      → AllByRecursion (λ reply. is_refused reply ≡ false) is.replies → output ≡ first_output
