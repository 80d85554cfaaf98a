use Rattle.jsonb_doc.proofs.Lemmas.{arith, rules, common_steps, refl, ◌≡◌, ◌<◌, ◌≤◌, ◌+◌, ◌-◌, List, ℕ, Some, Err, Tree, HasSpotsLeft, IsDecodingError, Error, SpotIter, ReadsSpot, spots_room, GivesSpot, kind_known, HasSpotsLeft-word, HasSpotsLeft-fits, HasSpotsLeft-first, PassesSpot-fits}
use Rattle.jsonb_doc.proofs.spot_iter.SpotIterIterator.next.Goals as goal
use Rattle.jsonb_doc.proofs.spot_iter.SpotIterIterator.next.Goals.{in_default-checked_add-via-in-Some-checked_add+else-end-self, in_default-checked_add-via-in_default-checked_add}

failed : (before after : SpotIter) (e : Error) → IsDecodingError e → ReadsSpot before (Some (Err e)) after → spots_room after ≤ spots_room before
    → ((bytes : List ℕ) (ts : List Tree) → HasSpotsLeft bytes before ts → ⊥) → GivesSpot before (Some (Err e)) after
failed before after e errors reads room none = record {
  any_bytes = record { reads = reads; errors = errors; ended = tt; size = tt; room = room };
  takes = λ bytes ts h. absurd (none bytes ts h);
}

pub returns-in_default-clause-steps : goal.returns-in_default-clause-steps
returns-in_default-clause-steps c =
    failed _ _ _ (search rules)
    (λ spot rest p. c.in_default.ensures.word _ _ _ (record { known = kind_known spot.kind; fits = p.fits; joined = p.word }), refl) (omega arith)
    (λ bytes ts h. HasSpotsLeft-word bytes c.args.self.now ts (grind (arith, common_steps)) c.in_default.ensures.word h)

pub returns-in-Some-checked_add-clause-steps : goal.returns-in-Some-checked_add-clause-steps
returns-in-Some-checked_add-clause-steps c =
    let sum = c.in-Some-checked_add.ensures in
    let len : c.in-Some-checked_add.end - c.args.self.now.start ≡ c.in-Some.len = omega (arith, sum.1) in
    record {
      any_bytes = record {
        reads = record {
          word = rw len c.in-Some.ensures.word.joined;
          fits = omega (arith, len, c.in-Some.ensures.word.fits);
          front = refl;
          ordered = omega (arith, sum.1);
          within = omega arith;
          next = refl;
          last = refl;
        };
        errors = search rules;
        ended = search rules;
        size = omega (arith, sum.1);
        room = omega (arith, sum.1);
      };
      takes = λ bytes ts h. HasSpotsLeft-first bytes _ _ _ _ c.in-Some.ensures.word ts _ _ refl refl sum.1 refl sum.1 refl h;
    }

pub returns-in_default-checked_add-clause-steps : goal.returns-in_default-checked_add-clause-steps
returns-in_default-checked_add-clause-steps c =
    let past : c.args.self.now.end < c.args.self.now.start + c.in-Some.len = elim c.in_default-checked_add.branch [
      | in_default-checked_add-via-in-Some-checked_add+else-end-self w ↦ omega (arith, w.in-Some-checked_add.ensures)
      | in_default-checked_add-via-in_default-checked_add w ↦ omega (arith, w.in_default-checked_add.ensures)
    ] in
    let word = c.in-Some.ensures.word in
    failed _ _ _ (search rules) (λ spot rest p. omega (arith, past, PassesSpot-fits c.args.self.now _ _ _ word spot rest p), refl) (omega arith)
    (λ bytes ts h. omega (arith, past, HasSpotsLeft-fits bytes c.args.self.now _ _ _ word ts h))
