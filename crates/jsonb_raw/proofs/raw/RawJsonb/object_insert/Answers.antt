use Rattle.jsonb_raw.proofs.Lemmas.{◌≡◌, true, false, arith, sym, ◌∙◌, false≢true, has_name, object_of_pairs}
use Rattle.jsonb_raw.proofs.raw.RawJsonb.object_insert.Goals as goal
use Rattle.jsonb_raw.proofs.raw.RawJsonb.object_insert.Goals.{else-not-update_flag-via-then-not-update_flag+else-place-gt0, else-not-update_flag-via-else-not-update_flag}

pub returns-in_err-place-clause-inserted : goal.returns-in_err-place-clause-inserted
returns-in_err-place-clause-inserted c = λ form t value d dv free.
    let o = object_of_pairs form t c.as_bytes-bytes.ensures c.in-Some.is d (c.in_ok-pairs.ensures.entries form) in
    absurd (c.in_err-place.ensures.place form o.ps o.names o.are)

pub returns-in_err-place-clause-duplicate : goal.returns-in_err-place-clause-duplicate
returns-in_err-place-clause-duplicate c = λ form t d there flag.
    let o = object_of_pairs form t c.as_bytes-bytes.ensures c.in-Some.is d (c.in_ok-pairs.ensures.entries form) in
    absurd (c.in_err-place.ensures.place form o.ps o.names o.are)

pub returns-then-place-gt0-clause-inserted : goal.returns-then-place-gt0-clause-inserted
returns-then-place-gt0-clause-inserted c = λ form t value d dv free.
    let o = object_of_pairs form t c.as_bytes-bytes.ensures c.in-Some.is d (c.in_ok-pairs.ensures.entries form) in
    let at = c.in_ok-place.ensures.place form o.ps o.names o.are in
    let there : has_name c.args.new_key.now t ≡ true = rw o.is (at.there c.if-place-gt0.true) in
    absurd (grind (arith, there, free))

pub returns-clause-inserted : goal.returns-clause-inserted
returns-clause-inserted c = λ form t value d dv free.
    let o = object_of_pairs form t c.as_bytes-bytes.ensures c.in-Some.is d (c.in_ok-pairs.ensures.entries form) in
    let at = c.in_ok-place.ensures.place form o.ps o.names o.are in
    rw o.is (c.object_with_pair.ensures.inserted form o.ps value o.hold o.are (rw c.as_bytes.ensures dv) at)

pub returns-clause-duplicate : goal.returns-clause-duplicate
returns-clause-duplicate c = λ form t d there flag.
    let o = object_of_pairs form t c.as_bytes-bytes.ensures c.in-Some.is d (c.in_ok-pairs.ensures.entries form) in
    let at = c.in_ok-place.ensures.place form o.ps o.names o.are in
    elim c.else-not-update_flag.branch [
      | else-not-update_flag-via-then-not-update_flag+else-place-gt0 w ↦
          let missing = at.missing (omega arith) in
          let bad : false ≡ true = rw (o.is, missing) at there in absurd (false≢true bad)
      | else-not-update_flag-via-else-not-update_flag w ↦
          absurd (false≢true (sym flag ∙ w.if-not-update_flag.false))
    ]
