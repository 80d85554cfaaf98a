use Rattle.std.proofs.Common.{◌≡◌, subst}
use Rattle.jsonb_doc.specs.Tree.{text}
use Rattle.jsonb_doc.proofs.CanonicalLemmas.{in_any}
use Rattle.jsonb_c.specs.Spans.{IsSpanOf}
use Rattle.jsonb_c.proofs.SpanLemmas.{string_item, no_string}
use Rattle.jsonb_c.proofs.span.child.find_str.Goals as goal

pub returns-in_err-root-clause-text : goal.returns-in_err-root-clause-text
returns-in_err-root-clause-text c = λ form t d. absurd (c.in_err-root.ensures.marks t (in_any form t _ d))

pub returns-in_err-spot_item-clause-text : goal.returns-in_err-spot_item-clause-text
returns-in_err-spot_item-clause-text c = λ form t d.
    absurd (c.in_err-spot_item.ensures.in_form form t t d (c.in_ok-root.ensures.marks t (in_any form t _ d)))

pub returns-in_err-span_of-in-String-clause-text : goal.returns-in_err-span_of-in-String-clause-text
returns-in_err-span_of-in-String-clause-text c = λ form t d.
    absurd (c.in_err-span_of-in-String.ensures.span form t t d (c.in_ok-root.ensures.marks t (in_any form t _ d)))

pub returns-in_ok-span_of-in-String-clause-text : goal.returns-in_ok-span_of-in-String-clause-text
returns-in_ok-span_of-in-String-clause-text c = λ form t d.
    let located = c.in_ok-root.ensures.marks t (in_any form t _ d) in
    let is = string_item form _ c.in-String.field-0 t c.in-String.is (c.in_ok-spot_item.ensures.in_form form t t d located) in
    let span = c.in_ok-span_of-in-String.ensures.span form t t d located in
    rw is (subst (IsSpanOf form c.args.document.now _) is span)

pub returns-in_default : goal.returns-in_default
returns-in_default c = record {
  text = λ form t d.
      let located = c.in_ok-root.ensures.marks t (in_any form t _ d) in
      let none = no_string form c.in_ok-spot_item.field-0 t c.in_default.not-String (c.in_ok-spot_item.ensures.in_form form t t d located) in
      rw none tt;
  within = tt;
  errors = tt;
}
