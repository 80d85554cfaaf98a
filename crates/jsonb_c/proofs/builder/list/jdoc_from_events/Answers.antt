use Rattle.jsonb_c.specs.Builders.{MakesDocumentOf}
use Rattle.jsonb_c.specs.Private.Views.{list_answer}
use Rattle.jsonb_c.proofs.BuilderLemmas.{list_makes, list_fails, list_matches}
use Rattle.jsonb_c.proofs.builder.list.jdoc_from_events.Goals as goal

pub returns-clause-text : goal.returns-clause-text
returns-clause-text c = λ _.
    let r = c.document_from_events.result in
    let h = c.document_from_events.ensures in
    let made : MakesDocumentOf c.args.keep_last c.args.events.now c.in-Ok.text.now (list_answer r) = record {
      document = λ form. list_makes _ r (h.document form);
      complete = λ form t of. list_matches _ _ r (h.complete form t of);
      errors = λ form. list_fails _ r (h.errors form);
    } in
    (list_answer r, rw c.in-Ok.ensures.cases.0 at made, c.deliver_made.ensures)
