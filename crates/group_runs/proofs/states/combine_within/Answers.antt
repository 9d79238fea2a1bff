use Rattle.std.proofs.Common.{refl}
use Rattle.std.proofs.lemmas.Result.{on_ok_weaker, on_err_weaker}
use Rattle.group_runs.proofs.Words.{combine_all, functions_of}
use Rattle.group_runs.specs.StandingLaws.{states_by}
use Rattle.group_runs.proofs.StateLaws.{combined, can_combine}
use Rattle.group_runs.proofs.states.combine_within.Goals as goal

pub returns : goal.returns
returns c =
    let kinds = c.args.kinds.now in
    record {
      combined =
          on_ok_weaker c.combine_into.result
          (λ both. record {
            moved = λ m n ps qs low are more. record {
              kinds = kinds;
              named = refl;
              denote = combined m n c.args.most kinds c.args.states.now c.args.more.now c.combine_into.new.into ps qs both.0 both.1 low
                  c.requires.most (states_by (functions_of kinds) m kinds c.args.states.now ps refl are)
                  (states_by (functions_of kinds) n kinds c.args.more.now qs refl more) both.2 both.3 both.4;
            };
            held = (
              (both.0, record { kinds = kinds; named = refl; denote = both.2 }),
              (both.1, record { kinds = kinds; named = refl; denote = both.3 }),
            );
            within = (combine_all (functions_of kinds) both.0 both.1, record { kinds = kinds; named = refl; denote = both.4 });
          })
          c.combine_into.ensures.ok;
      refused =
          on_err_weaker c.combine_into.result
          (λ refused room.
          can_combine room.0 room.1 c.args.most kinds c.args.states.now c.args.more.now room.2 room.3 room.6
          (states_by (functions_of kinds) room.0 kinds c.args.states.now room.2 refl room.4)
          (states_by (functions_of kinds) room.1 kinds c.args.more.now room.3 refl room.5)
          refused)
          c.combine_into.ensures.err;
      unchanged = c.combine_into.ensures.unchanged;
    }
