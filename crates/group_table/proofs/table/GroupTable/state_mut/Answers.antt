use Rattle.std.proofs.Common.{◌≡◌, ℕ, List, length, refl, sym, subst, ◌∙◌, ap}
use Rattle.std.specs.Prelude.{IsTrue}
use Rattle.group_table.proofs.Words.{place_of, chunks_of, has_chunk, chunk_bytes, with_bytes, context_at, ContextId, TableState}
use Rattle.chunk_contexts.specs.Chunks.{KeepsOthers}
use Rattle.context_tree.specs.TreeLends.{with_bytes_in}
use Rattle.group_table.proofs.SpaceLaws.{holds_written}
use Rattle.group_table.proofs.WriteLaws.{table_written, others_written, groups_written}
use Rattle.group_table.proofs.table.GroupTable.state_mut.Goals as goal

pub returns : goal.returns
returns g c =
    let hash = g.H.KeyHash.hash_of in let t = c.args.table.now in let tree = c.args.tree.now in let slot = c.args.slot in let lent =
    c.bytes_mut.ensures in
    let id : c.table.inside.states ≡ t.states = ap (λ (x : TableState g.row.H.Denot). x.states) c.table.view_is in
    let long : slot.state.len ≡ t.width = c.requires.table.standing.stands.groups.widths slot c.requires.slot in
    let lives : (ws : List ℕ) → IsTrue (has_chunk (with_bytes (context_at tree t.states) (place_of slot.state) ws) slot.state) =
    λ ws. subst (λ (i : ContextId). IsTrue (has_chunk (with_bytes (context_at tree i) (place_of slot.state) ws) slot.state)) id
    (lent.lives ws) in
    let holds : (ws : List ℕ) → length ws ≡ t.width → chunk_bytes (with_bytes (context_at tree t.states) (place_of slot.state) ws)
    slot.state ≡ ws =
    λ ws len. subst (λ (i : ContextId). chunk_bytes (with_bytes (context_at tree i) (place_of slot.state) ws) slot.state
    ≡ ws) id (lent.holds ws (len ∙ sym long)) in
    let keeps : (ws : List ℕ)
    → KeepsOthers (chunks_of (context_at tree t.states)) (chunks_of (with_bytes (context_at tree t.states) (place_of slot.state) ws))
    slot.state slot.state =
    λ ws. subst (λ (i : ContextId). KeepsOthers (chunks_of (context_at tree i))
    (chunks_of (with_bytes (context_at tree i) (place_of slot.state) ws)) slot.state slot.state) id (lent.keeps ws) in (
      (refl, λ w. ap (λ (i : ContextId). with_bytes_in tree i slot.state w) id),
      record {
        writes_back = tt;
        state = lent.bytes ∙ ap (λ (i : ContextId). chunk_bytes (context_at tree i) slot.state) id;
        len = lent.len ∙ long;
        written = λ ws. record {
          stands = λ len. table_written hash t tree c.requires.table slot c.requires.slot ws (lives ws) (keeps ws);
          written = λ len place at_place. groups_written hash t tree c.requires.table slot c.requires.slot ws (lives ws) (keeps ws) place
              at_place (holds ws len);
          others = others_written hash t tree c.requires.table slot c.requires.slot ws (lives ws) (keeps ws);
          holds = λ len. holds_written t tree c.requires.table.standing.placed (place_of slot.state) ws;
        };
      },
    )
