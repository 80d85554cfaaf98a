use Rattle.jsonb_doc.proofs.Lemmas.{arith, refl, kind_number, common_steps, stored_held}
use Rattle.jsonb_doc.proofs.array_builder.ArrayBuilder.push_spot.Goals as goal

pub returns-in_err-entry-clause-pushed : goal.returns-in_err-entry-clause-pushed
returns-in_err-entry-clause-pushed c = λ form top t ts holds d l. absurd (c.in_err-entry.ensures.entry form top t d l)

pub returns-clause-pushed : goal.returns-clause-pushed
returns-clause-pushed c = λ form top t ts holds d l.
    let words = c.in_ok-push_stored.ensures.words in
    let contents = c.in_ok-push_stored.ensures.contents in
    stored_held form (record { words = c.self.inside.words.items; contents = c.self.inside.contents.items }) _ ts (kind_number c.in_ok-entry.entry.kind)
    c.in_ok-entry.entry.content.now t (rw (← c.self.view_is) at holds) (c.in_ok-entry.ensures.entry form top t d l) (omega arith) (rw (words, contents) refl)

pub returns-in_err-item-clause-pushed : goal.returns-in_err-item-clause-pushed
returns-in_err-item-clause-pushed c = λ form top t ts holds d l.
    absurd (c.in_err-item.ensures.decodes form t (c.in_ok-entry.ensures.entry form top t d l))

pub returns-then-entry-gt-MAX_CONTENT-clause-pushed : goal.returns-then-entry-gt-MAX_CONTENT-clause-pushed
returns-then-entry-gt-MAX_CONTENT-clause-pushed c = λ form top t ts holds d l. grind (arith, common_steps)
