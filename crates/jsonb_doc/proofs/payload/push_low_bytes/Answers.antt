use Rattle.jsonb_doc.proofs.Lemmas.{rules, ◌≡◌, ◌-◌, ◌≤◌, ◌++◌, ℕ, zero, suc, List, drop, take, refl, arith, inl, inr, Result, Ok, Err, OnOk, is_ok, if◌then◌else◌, cases_lt, take_all, bytes_high_first, length-bytes_high_first, big_bytes}
use Rattle.jsonb_doc.proofs.payload.push_low_bytes.Goals as goal

-- the low bytes of a number are the last of all its bytes
drop-bytes : (k n x : ℕ) → n ≤ k → drop (k - n) (bytes_high_first k x) ≡ bytes_high_first n x
drop-bytes zero n x h = let e : n ≡ 0 = omega arith in rw e refl
drop-bytes (suc k) n x h = elim (cases_lt k n) [
  | inl top ↦
      let e : n ≡ suc k = omega arith in
      let z : suc k - n ≡ 0 = omega arith in
      rw (z, e) refl
  | inr lower ↦ let e : suc k - n ≡ suc (k - n) = omega arith in rw e (drop-bytes k n x lower)
]

last_bytes : (n x : ℕ) → n ≤ 8 → take (8 - (8 - n)) (drop (8 - n) (bytes_high_first 8 x)) ≡ big_bytes n x
last_bytes n x h =
    let len : 8 - (8 - n) ≡ n = omega arith in
    rw (len, drop-bytes 8 n x h) (take_all n (bytes_high_first n x) (omega (arith, length-bytes_high_first n x)))

on_ok : {A E : Type 0} (r : Result A E) (new old more : List ℕ) → new ≡ (if is_ok r then old ++ more else old) → OnOk r (new ≡ old ++ more)
on_ok (Ok x) new old more e = e
on_ok (Err x) new old more e = tt

pub returns-clause-pushed : goal.returns-clause-pushed
returns-clause-pushed c = search (rules, last_bytes, on_ok)
