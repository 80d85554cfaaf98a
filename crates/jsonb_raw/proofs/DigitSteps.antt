-- Steps from digit to digit of a number, and what a push of its bytes leaves.
use Rattle.jsonb_raw.proofs.Common.{◌≡◌, ◌≢◌, ℕ, suc, ◌+◌, ◌/◌, ◌%◌, ◌^◌, ◌<◌, ◌≤◌, ◌==◌, ◌&&◌, Bool, true, false, cond, List, [], ◌∷◌, ◌++◌, map, length, drop, refl, sym, ap, ap₂, ◌∙◌, arith, append_assoc, ◌-◌, take, w16, ne_eqb, list_all, digits_of, map-append, take-take, digits_of_step, length-digits_of_step, length-digits_of-le, significant, magnitude_bytes, complement_byte, complement_bytes, WritesBefore, to_be_bytes, take-append-add, ℤ, pos, nat_abs, int_lt, number_bytes}

pub count_step : (n : ℕ) → 0 < n → length (digits_of 10 (n / 10)) + 1 ≡ length (digits_of 10 n)
count_step n h = sym (length-digits_of_step 10 n (omega arith) h)

pub count_few : (n : ℕ) → n < 2 ^ 128 → length (digits_of 10 n) ≤ 39
count_few n h = length-digits_of-le 10 39 n (omega arith) (omega arith)

pub count_short : (n : ℕ) → n < 2 ^ 64 → length (digits_of 10 n) ≤ 20
count_short n h = length-digits_of-le 10 20 n (omega arith) (omega arith)

all_zero_behind : (ds : List ℕ) → list_all (λ d. d == 0) (ds ++ 0 ∷ []) ≡ list_all (λ d. d == 0) ds
all_zero_behind [] = refl
all_zero_behind (d ∷ ds) = ap (λ b. (d == 0) && b) (all_zero_behind ds)

significant-zero_behind : (ds : List ℕ) → significant (ds ++ 0 ∷ []) ≡ significant ds
significant-zero_behind [] = refl
significant-zero_behind (d ∷ ds) = ap₂ (λ b x. cond ((d == 0) && b) [] (d ∷ x)) (all_zero_behind ds) (significant-zero_behind ds)

not_all_zero_behind : (c : ℕ) (ds : List ℕ) → c ≢ 0 → list_all (λ d. d == 0) (ds ++ c ∷ []) ≡ false
not_all_zero_behind c [] h = ap (λ b. b && true) (ne_eqb c 0 h)
not_all_zero_behind c (d ∷ ds) h = grind (arith, not_all_zero_behind c ds h)

significant-behind : (c : ℕ) (ds : List ℕ) → c ≢ 0 → significant (ds ++ c ∷ []) ≡ ds ++ c ∷ []
significant-behind c [] h = ap (λ b. cond (b && true) [] (c ∷ [])) (ne_eqb c 0 h)
significant-behind c (d ∷ ds) h = ap₂ (λ b x. cond b [] (d ∷ x)) (not_all_zero_behind c (d ∷ ds) h) (significant-behind c ds h)

pub significant_whole : (n : ℕ) → n % 10 ≢ 0 → significant (digits_of 10 n) ≡ digits_of 10 n
significant_whole n h = grind (arith, significant-behind, digits_of_step)

pub no_digits : (n : ℕ) → n ≡ 0 → digits_of 10 n ≡ []
no_digits n h = grind arith

-- ---- a number taken apart from its last digit on

-- zeros were passed over: after the digits that are left they are all digits, of which there are that many at most
pub record ZerosPassed (n left zeros most : ℕ) : Type 0 where
  pub same : significant (digits_of 10 left) ≡ significant (digits_of 10 n)
  pub count : length (digits_of 10 n) ≡ length (digits_of 10 left) + zeros
  pub few : length (digits_of 10 n) ≤ most

pub zero_passed : (n left others zeros most : ℕ) → ZerosPassed n left zeros most → 0 < left → others ≡ left / 10 → left % 10 ≡ 0
    → ZerosPassed n others (zeros + 1) most
zero_passed n left others zeros most h e k f = grind (arith, count_step, significant-zero_behind, digits_of_step)

-- digits are written up to a place of the buffer: after those that are left they are all digits
pub record DigitsWritten (negative : Bool) (n end : ℕ) (buffer : List ℕ) (left at : ℕ) (now : List ℕ) : Type 0 where
  pub count : at + length (digits_of 10 n) ≡ end + length (digits_of 10 left)
  pub within : at ≤ length now
  pub written : complement_bytes negative (map suc (digits_of 10 left)) ++ drop at now
      ≡ complement_bytes negative (map suc (digits_of 10 n)) ++ drop end buffer
  pub len : length now ≡ length buffer

module _ (negative : Bool) (n end : ℕ) (buffer : List ℕ) (left at : ℕ) (now : List ℕ) (h : DigitsWritten negative n end buffer left at now) where
  -- there is room for one digit more
  pub room_left : length (digits_of 10 n) ≤ end → 0 < left → 0 < at
  room_left room some = let count = h.count in let step = count_step left some in omega arith

  pub digit_passed : (others byte before : ℕ) (buffer' : List ℕ) → length (digits_of 10 n) ≤ end → 0 < left → others ≡ left / 10
      → byte ≡ complement_byte negative (suc (left % 10)) → before + 1 ≡ at → WritesBefore now at (byte ∷ []) before buffer'
      → DigitsWritten negative n end buffer others before buffer'
  digit_passed others byte before buffer' room some is byte_is place more = grind (arith, count_step, append_assoc, map-append, digits_of_step)

  pub all_digits : left ≡ 0 → drop at now ≡ complement_bytes negative (map suc (digits_of 10 n)) ++ drop end buffer
  all_digits none = ap (λ ds. complement_bytes negative (map suc ds) ++ drop at now) (sym (no_digits left none)) ∙ h.written

-- ---- digits of a number that are put before the bytes of a word, the last digit first

-- one byte more, at the front
pub packed_behind : (len byte : ℕ) (now before : List ℕ) → len < 16 → now ≡ byte ∷ take 15 before → take (len + 1) now ≡ byte ∷ take len before
packed_behind len byte now before room is =
    let next : len + 1 ≡ suc len = omega arith in
    ap₂ take next is ∙ ap (λ xs. byte ∷ xs) (take-take len 15 before (omega arith))

-- both words are appended, and as many of their bytes stay
pub packed_pushed : (old one two bytes : List ℕ) (len at : ℕ) → at ≡ length old + len → one ≡ old ++ bytes → two ≡ take at one → two ≡ old ++ take len bytes
packed_pushed old one two bytes len at place pushed cut = cut ∙ ap₂ take place pushed ∙ take-append-add old bytes len

-- Holds if the digits that are left and the packed bytes are together the number's digits and the end marker.
pub record DigitsPacked (negative : Bool) (n left len : ℕ) (bytes : List ℕ) : Type 0 where
  pub counted : len + length (digits_of 10 left) ≡ length (digits_of 10 n) + 1
  pub few : length (digits_of 10 n) ≤ 9
  pub packed : complement_bytes negative (map suc (digits_of 10 left)) ++ bytes ≡ complement_bytes negative (map suc (digits_of 10 n) ++ 0 ∷ [])

module _ (negative : Bool) (n left len : ℕ) (bytes : List ℕ) (h : DigitsPacked negative n left len bytes) where
  pub digit_packed : (others len' byte : ℕ) (bytes' : List ℕ) → 0 < left → others ≡ left / 10 → len' ≡ len + 1
      → byte ≡ complement_byte negative (suc (left % 10)) → bytes' ≡ byte ∷ bytes → DigitsPacked negative n others len' bytes'
  digit_packed others len' byte bytes' some is more byte_is bytes_are = grind (arith, count_step, append_assoc, map-append, digits_of_step)

-- the exponent's bytes before the digits
pub magnitude_packed : (negative : Bool) (exponent digits : List ℕ) (n shorter scale e : ℕ) → e ≡ length (digits_of 10 n) + 1000 - scale
    → digits_of 10 shorter ≡ significant (digits_of 10 n) → exponent ≡ complement_bytes negative (to_be_bytes w16 e)
    → digits ≡ complement_bytes negative (map suc (digits_of 10 shorter) ++ 0 ∷ []) → exponent ++ digits ≡ complement_bytes negative (magnitude_bytes n scale)
unfolding magnitude_bytes
magnitude_packed negative exponent digits n shorter scale e moved same front back =
    rw (front, back, same, moved) (simp map-append)

same_bytes : (bs : List ℕ) → complement_bytes false bs ≡ bs
same_bytes [] = refl
same_bytes (b ∷ bs) = ap (λ x. b ∷ x) (same_bytes bs)

pub positive_pushed : (old : List ℕ) (z : ℤ) (scale : ℕ) → int_lt z (pos 0) ≡ false → z ≢ pos 0
    → (old ++ 0x81 ∷ []) ++ complement_bytes false (magnitude_bytes (nat_abs z) scale) ≡ old ++ number_bytes z scale
positive_pushed old z scale h e = grind (arith, append_assoc, same_bytes)

-- a buffer that holds the sign byte, the exponent, the digits and the end marker is appended
pub buffer_steps : (negative : Bool) (old last whole front tail : List ℕ) (sign n scale e byte : ℕ) → e ≡ length (digits_of 10 n) + 1000 - scale
    → whole ≡ sign ∷ front → front ≡ complement_bytes negative (to_be_bytes w16 e) ++ tail
    → tail ≡ complement_bytes negative (map suc (significant (digits_of 10 n))) ++ byte ∷ [] → byte ≡ complement_byte negative 0 → last ≡ old ++ whole
    → last ≡ (old ++ sign ∷ []) ++ complement_bytes negative (magnitude_bytes n scale)
unfolding magnitude_bytes
buffer_steps negative old last whole front tail sign n scale e byte h w f t b l =
    rw (l, w, f, t, b, h) (simp (map-append, append_assoc))
