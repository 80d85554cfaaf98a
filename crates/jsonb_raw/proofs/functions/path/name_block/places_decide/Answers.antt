use Rattle.jsonb_raw.proofs.Lemmas.{none_seen_yet}
use Rattle.jsonb_raw.proofs.functions.path.name_block.places_decide.Goals as goal

pub returns-then-not-place_names-clause-has : goal.returns-then-not-place_names-clause-has
returns-then-not-place_names-clause-has g c = λ form ss h. c.each_decides.ensures.has form ss h (none_seen_yet ss _ _ c.requires.names)

pub returns-then-found-clause-has : goal.returns-then-found-clause-has
returns-then-found-clause-has g c = λ form ss h. rw c.if-found.true (c.any_among.ensures.has form ss h)

pub returns-in_err-mark_seen-clause-has : goal.returns-in_err-mark_seen-clause-has
returns-in_err-mark_seen-clause-has g c = λ form ss h. absurd (c.in_err-mark_seen.ensures.seen form ss h (none_seen_yet ss _ _ c.requires.names))

pub returns-clause-has : goal.returns-clause-has
returns-clause-has g c = λ form ss h. c.each_decides-2.ensures.has form ss h (c.in_ok-mark_seen.ensures.seen form ss h (none_seen_yet ss _ _ c.requires.names))
