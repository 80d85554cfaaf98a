-- Blocks of bytes in which no top bit is set.
use Rattle.std.proofs.Common.{◌≡◌, ℕ, zero, suc, ◌+◌, ◌-◌, ◌%◌, ◌^◌, ◌<◌, ◌≤◌, true, cond, leb, eqb, List, [], ◌∷◌, ◌++◌, map, length, get_or, take, drop, replicate, IsAscii, sym, ap, ◌∙◌, subst, inl, inr, arith, leb-false, eqb-true, get_or-take, get_or-drop, take-add}
use Rattle.std.proofs.lemmas.Bool.{cases_lt}
use Rattle.std.proofs.lemmas.List.{get_or_past, length-map, length-replicate}
use Rattle.std.proofs.lemmas.Simd.{length-zip2, mask_l-mod}
use lib.Lanes.{zip2, mask_l, top}

abbrev pub at_least : ℕ → ℕ → ℕ
at_least a b = cond (leb a b) 255 0

none_high : (xs : List ℕ) → mask_l (map (top 7) (zip2 at_least (replicate (length xs) 128) xs)) ≡ 0 → (i : ℕ) → get_or xs i 0 < 128
none_high [] e i = omega arith
none_high (x ∷ xs) e zero = grind (arith, leb-false)
none_high (x ∷ xs) e (suc i) = none_high xs (omega arith) i

-- the test of n bytes
pub ascii_of_mask : (n : ℕ) (xs : List ℕ) → n ≤ 64 → length xs ≡ n
    → eqb (mask_l (map (top 7) (zip2 at_least (replicate n 128) xs)) % 2 ^ 64) 0 ≡ true → IsAscii xs
ascii_of_mask n xs few long e =
    let lanes = zip2 at_least (replicate n 128) xs in
    let as_long : length (replicate n 128) ≡ length xs = length-replicate n 128 ∙ sym long in
    let marks : length (map (top 7) lanes) ≤ 64 =
    omega (arith, few, length-map lanes (top 7), length-zip2 at_least (replicate n 128) xs as_long, length-replicate {A = ℕ} n 128) in
    none_high xs (ap (λ m. mask_l (map (top 7) (zip2 at_least (replicate m 128) xs))) long
    ∙ sym (mask_l-mod (map (top 7) lanes) 64 marks) ∙ eqb-true _ _ e)

IsAscii-append : (xs ys : List ℕ) → IsAscii xs → IsAscii ys → IsAscii (xs ++ ys)
IsAscii-append [] ys p q = q
IsAscii-append (x ∷ xs) ys p q = let rest = IsAscii-append xs ys (λ i. p (suc i)) q in elim [ zero ↦ p 0 | suc i ↦ rest i ]

-- a block after others
pub ascii_more : (bytes : List ℕ) (at n : ℕ) → IsAscii (take at bytes) → IsAscii (take n (drop at bytes)) → IsAscii (take (at + n) bytes)
ascii_more bytes at n p q = subst IsAscii (sym (take-add at n bytes)) (IsAscii-append _ _ p q)

-- the last block, which may begin before the others end
pub ascii_whole : (bytes : List ℕ) (at last n : ℕ) → IsAscii (take at bytes) → IsAscii (take n (drop last bytes)) → last ≤ at → last + n ≡ length bytes
    → IsAscii bytes
ascii_whole bytes at last n p q behind fits i = elim (cases_lt i at) [
  | inl l ↦ rw (sym (get_or-take at bytes i 0 l)) (p i)
  | inr g ↦ elim (cases_lt i (length bytes)) [
    | inl l ↦
        let within : i - last < n = omega arith in
        let j : i ≡ last + (i - last) = omega arith in
        let same : get_or bytes i 0 ≡ get_or (take n (drop last bytes)) (i - last) 0 =
        ap (λ k. get_or bytes k 0) j ∙ sym (get_or-drop last bytes (i - last) 0) ∙ sym (get_or-take n (drop last bytes) (i - last) 0 within) in
        rw same (q (i - last))
    | inr past ↦ rw (get_or_past bytes i 0 past) (omega arith)
  ]
]
