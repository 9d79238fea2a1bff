use Rattle.std.specs.Prelude.{◌≡◌, ℕ, false, List, length}
use Rattle.std.proofs.Common.{◌∙◌, inl, inr, rules, subst, tests}
use Rattle.plain_batches.specs.Refusal.{PackFault}
use Rattle.script_io.specs.Fused.{unread}
use Rattle.command_packs.proofs.PackingLaws.{given_none}
use Rattle.command_packs.proofs.pack.Goals as goal

pub returns-then-not-words-clause-why : goal.returns-then-not-words-clause-why
returns-then-not-words-clause-why g c =
    let csv = c.in_ok-schema.csv.items in
    let none : length csv ≡ 0 = search (rules, tests) in
    let refuses : c.args.words.allows_empty ≡ false = search (rules, tests) in
    let headless : c.args.layout.has_header ≡ false = search (rules, tests) in
    let input = unread g.I.Read.remaining c.args.inputs.now.reader.now in
    inr (inl (refuses, headless, given_none c.args.words input csv none c.in_ok-schema.ensures.csv, c.empty.ensures))

pub returns-clause-why : goal.returns-clause-why
returns-clause-why g c =
    let fault = subst
    (λ (text : List ℕ). PackFault c.in_ok-schema.schema c.args.layout c.args.origin c.args.number text c.in-Err.why)
    c.deref.ensures.value c.in-Err.ensures.refused in
    inr (inr (record {
      columns = c.in_ok-schema.schema;
      of_summary = c.in_ok-schema.ensures.columns;
      csv = c.in_ok-schema.csv.items;
      given = c.in_ok-schema.ensures.csv;
      error = c.in-Err.why;
      fault = fault;
      named = c.because.ensures ∙ c.refusal_of.ensures;
    }))
