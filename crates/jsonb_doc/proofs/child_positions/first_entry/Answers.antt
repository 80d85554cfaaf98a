use Rattle.jsonb_doc.proofs.Lemmas.{refl, ◌∷◌, ◌∙◌, at_spots, first_read, others_at}
use Rattle.jsonb_doc.proofs.child_positions.first_entry.Goals as goal

pub returns-in_err-spot-clause-first : goal.returns-in_err-spot-clause-first
returns-in_err-spot-clause-first c = λ t ts h.
    let words = c.new-entries.ensures.words in
    let spots = at_spots _ _ _ (t ∷ ts) _ h (words ∙ c.in-Some.ensures.1) c.new-entries.ensures.start c.new-entries.ensures.end in
    absurd (rw c.in_err-spot.was at (c.in-Some-next.ensures.steps.takes _ (t ∷ ts) spots))

pub returns-clause-first : goal.returns-clause-first
returns-clause-first c = λ t ts h.
    let words = c.new-entries.ensures.words ∙ c.in-Some.ensures.1 in
    let spots = at_spots _ _ _ (t ∷ ts) _ h words c.new-entries.ensures.start c.new-entries.ensures.end in
    let f = first_read _ t ts _ _ _ _ c.in-Some-next.ensures.steps c.in_ok-spot.was spots in (
      f.marks,
      others_at _ _ _ _ t ts _ _ _ c.requires h words f.passes f.rest c.new-entries.ensures.end refl refl refl,
    )
