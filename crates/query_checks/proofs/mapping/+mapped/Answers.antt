use Rattle.std.specs.Prelude.{◌≡◌, Result, Ok, IfOk}
use Rattle.std.proofs.Common.{sym, ◌∙◌, ap, subst, Box, Global}
use Rattle.query_checks.specs.declared.condition.Cond.{Cond}
use Rattle.query_checks.specs.Operators.{comparison_of, test_of}
use Rattle.query_checks.specs.Forms.{Form, Unary, Binary, Negation, Testing, Conjunction, Disjunction, Comparing, form_of, call_form}
use Rattle.query_checks.specs.Forms.{map_reads}
use Rattle.query_checks.specs.FormLaws.{call_stays}
use Rattle.query_checks.proofs.mapping.+mapped.Goals as goal

-- what became of an operand
operand : {C D E : Type 0} (read : Form C → Form D) (result : Result (Box (Cond D) Global) E) (made : Box (Cond D) Global)
    (given own : Cond C) → result ≡ Ok made → given ≡ own → IfOk result (λ c. form_of c.value ≡ read (form_of given)) → form_of made.value
    ≡ read (form_of own)
operand {D = D} {E = E} read result made given own is same as_told = subst (λ (r : Result (Box (Cond D) Global) E). IfOk r
    (λ c. form_of c.value ≡ read (form_of given))) is as_told ∙ ap (λ x. read (form_of x)) same

pub mapped-returns-in_ok-boxed-in-Not : goal.mapped-returns-in_ok-boxed-in-Not
mapped-returns-in_ok-boxed-in-Not g t c =
    let read = λ (x : Cond g.row.C.Denot). map_reads (g.M.Mapping.column_as c.args.mapping.now) (g.M.Mapping.call_as c.args.mapping.now)
    (form_of x) in
    ap (Unary Negation) (c.in_ok-boxed-in-Not.ensures ∙ ap read c.deref-in-Not.ensures) ∙ ap read (sym c.in-Not.is)

pub mapped-returns-in_ok-boxed-in-Is : goal.mapped-returns-in_ok-boxed-in-Is
mapped-returns-in_ok-boxed-in-Is g t c =
    let read = λ (x : Cond g.row.C.Denot). map_reads (g.M.Mapping.column_as c.args.mapping.now) (g.M.Mapping.call_as c.args.mapping.now)
    (form_of x) in
    ap (Unary (Testing (test_of c.in-Is.test) c.in-Is.negated)) (c.in_ok-boxed-in-Is.ensures ∙ ap read c.deref-in-Is.ensures)
    ∙ ap read (sym c.in-Is.is)

pub mapped-returns-in_ok-c-in-Or : goal.mapped-returns-in_ok-c-in-Or
mapped-returns-in_ok-c-in-Or g t c =
    let read = map_reads (g.M.Mapping.column_as c.args.mapping.now) (g.M.Mapping.call_as c.args.mapping.now) in
    let made = c.in_ok-c-in-Or in
    (λ i. Binary Disjunction (operand read c.boxed-in-Or.result made.c c.deref-in-Or.result.now c.in-Or.c.value made.ensures.0
    c.deref-in-Or.ensures c.boxed-in-Or.ensures i)
    (operand read c.boxed-in-Or-2.result made.d c.deref-in-Or-2.result.now c.in-Or.d.value made.ensures.1 c.deref-in-Or-2.ensures
    c.boxed-in-Or-2.ensures i))
    ∙ ap (λ x. read (form_of x)) (sym c.in-Or.is)

pub mapped-returns-in_ok-c-in-And : goal.mapped-returns-in_ok-c-in-And
mapped-returns-in_ok-c-in-And g t c =
    let read = map_reads (g.M.Mapping.column_as c.args.mapping.now) (g.M.Mapping.call_as c.args.mapping.now) in
    let made = c.in_ok-c-in-And in
    (λ i. Binary Conjunction (operand read c.boxed-in-And.result made.c c.deref-in-And.result.now c.in-And.c.value made.ensures.0
    c.deref-in-And.ensures c.boxed-in-And.ensures i)
    (operand read c.boxed-in-And-2.result made.d c.deref-in-And-2.result.now c.in-And.d.value made.ensures.1 c.deref-in-And-2.ensures
    c.boxed-in-And-2.ensures i))
    ∙ ap (λ x. read (form_of x)) (sym c.in-And.is)

pub mapped-returns-in_ok-c-in-Compare : goal.mapped-returns-in_ok-c-in-Compare
mapped-returns-in_ok-c-in-Compare g t c =
    let read = map_reads (g.M.Mapping.column_as c.args.mapping.now) (g.M.Mapping.call_as c.args.mapping.now) in
    let made = c.in_ok-c-in-Compare in
    (λ i. Binary (Comparing (comparison_of c.in-Compare.comparison))
    (operand read c.boxed-in-Compare.result made.c c.deref-in-Compare.result.now c.in-Compare.c.value made.ensures.0
    c.deref-in-Compare.ensures c.boxed-in-Compare.ensures i)
    (operand read c.boxed-in-Compare-2.result made.d c.deref-in-Compare-2.result.now c.in-Compare.d.value made.ensures.1
    c.deref-in-Compare-2.ensures c.boxed-in-Compare-2.ensures i))
    ∙ ap (λ x. read (form_of x)) (sym c.in-Compare.is)

pub mapped_read-returns-in_ok-in_box-in-None : goal.mapped_read-returns-in_ok-in_box-in-None
mapped_read-returns-in_ok-in_box-in-None g t c =
    ap call_form c.in_ok-in_box-in-None.ensures
    ∙ c.in_ok-call-in-None.ensures
    ∙ call_stays (g.M.Mapping.column_as c.args.mapping.now) (g.M.Mapping.call_as c.args.mapping.now) (call_form c.args.call.now)
    (sym c.call.ensures ∙ c.in-None.is)
