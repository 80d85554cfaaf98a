-- Bytes: words before others, lists that grow at their end, and equality and order by words of eight bytes.
use Rattle.jsonb_doc.proofs.Common.{◌≡◌, ℕ, ◌^◌, ◌<◌, List, ◌++◌, length, take, drop, refl, sym, ap, true, bytes_eq, bytes_eq-Decides, take_at, drop_at, big_bytes, arith, ◌∙◌, append_assoc, Result, OnOk, common_steps, StaysInFront, zero, suc, ◌-◌, ◌*◌, ◌≤◌, [], ◌∷◌, length-drop, get_or, Option, Some, Bool, nat_eq, IsTrue, ◌&&◌, Width, w32, w64, from_be_bytes, to_be_bytes, option_eq, eqb-true, eq-eqb, take-take, take-append-drop, length-take-le, be_bytes_4, be_bytes_8, AreEnds, ◌≢◌, ◌+◌, Ordering, Less, Equal, Greater, ordering_then, MatchOrdering, ranks, nat_cmp_is, slice_cmp, nat_cmp}

-- two cuts of a list at the same position are the same cut
pub append_cancel : (a b c d : List ℕ) → length a ≡ length c → a ++ b ≡ c ++ d → (a ≡ c) × (b ≡ d)
append_cancel a b c d same e =
    grind (arith, take_at a b, drop_at a b, take_at c d (length a) (sym same), drop_at c d (length a) (sym same))

-- two words before bytes are one word
pub word_cancel : (m n : ℕ) (xs ys : List ℕ) → m < 2 ^ 32 → n < 2 ^ 32 → big_bytes 4 m ++ xs ≡ big_bytes 4 n ++ ys → (m ≡ n) × (xs ≡ ys)
word_cancel m n xs ys h e k = grind (arith)

pub bytes_eq-true : (xs ys : List ℕ) → bytes_eq xs ys ≡ true → xs ≡ ys
bytes_eq-true xs ys e = (bytes_eq-Decides xs ys).0 e

pub bytes_eq-same : (xs : List ℕ) → bytes_eq xs xs ≡ true
bytes_eq-same xs = (bytes_eq-Decides xs xs).1 refl

pub grown : (old a b one two : List ℕ) → one ≡ old ++ a → two ≡ one ++ b → two ≡ old ++ (a ++ b)
grown old a b one two e f = f ∙ ap (λ (l : List ℕ). l ++ b) e ∙ append_assoc old a b

pub grown_ok : {A E : Type 0} (r : Result A E) (old a b one two : List ℕ) → one ≡ old ++ a → OnOk r (two ≡ one ++ b) → OnOk r (two ≡ old ++ (a ++ b))
grown_ok r old a b one two h e = grind (arith, grown)

pub stays : (old a new : List ℕ) → new ≡ old ++ a → StaysInFront old new
stays old a new e = grind (arith, common_steps)

-- ---- the words at the ends

-- each is a byte
abbrev pub AreSmall : List ℕ → Type 0
AreSmall xs = (i : ℕ) → get_or xs i 0 < 256

take_small : (n : ℕ) (xs : List ℕ) → AreSmall xs → AreSmall (take n xs)
take_small zero xs h i = grind arith
take_small (suc n) [] h i = h i
take_small (suc n) (x ∷ xs) h zero = h zero
take_small (suc n) (x ∷ xs) h (suc i) = take_small n xs (λ j. h (suc j)) i

drop_small : (n : ℕ) (xs : List ℕ) → AreSmall xs → AreSmall (drop n xs)
drop_small (suc n) (x ∷ xs) h = drop_small n xs (λ j. h (suc j))
drop_small _ _ h = grind arith

-- that many bytes are those of their number
abbrev pub HasWords : Width → ℕ → Type 0
HasWords w n = (xs : List ℕ) → length xs ≡ n → AreSmall xs → to_be_bytes w (from_be_bytes w xs) ≡ xs

pub short_words : HasWords w32 4
short_words xs long small = be_bytes_4 xs (from_be_bytes w32 xs) long small refl

pub long_words : HasWords w64 8
long_words xs long small = be_bytes_8 xs (from_be_bytes w64 xs) long small refl

-- the numbers of the first bytes and of the last
pub ends_are : (w : Width) (n : ℕ) → HasWords w n → (bytes first last : List ℕ) (x y : ℕ) → n ≤ length bytes → AreSmall bytes
    → first ≡ take n bytes → last ≡ drop (length bytes - n) bytes → x ≡ from_be_bytes w first → y ≡ from_be_bytes w last
    → AreEnds w n bytes (Some (x, y))
ends_are w n words bytes first last x y enough small front back e f =
    grind (arith, length-take-le, take_small, length-drop, drop_small)

-- ---- what they determine

-- lists are equal if both their ends are
pub ends_joined : (n : ℕ) (xs ys : List ℕ) → length xs ≡ length ys → length xs ≤ 2 * n → take n xs ≡ take n ys
    → drop (length xs - n) xs ≡ drop (length ys - n) ys → xs ≡ ys
ends_joined n xs ys same few front back =
    let k = length xs - n in
    let short : k ≤ n = omega (arith, few) in
    let first : take k xs ≡ take k ys = sym (take-take k n xs short) ∙ ap (take k) front ∙ take-take k n ys short in
    let last : drop k xs ≡ drop k ys = back ∙ ap (λ (m : ℕ). drop m ys) (omega (arith, same)) in
    sym (take-append-drop k xs) ∙ ap (λ (l : List ℕ). l ++ drop k xs) first ∙ ap (λ (l : List ℕ). take k ys ++ l) last ∙ take-append-drop k ys

abbrev pub pairs_equal : ℕ × ℕ → ℕ × ℕ → Bool
pairs_equal a b = nat_eq a.0 b.0 && nat_eq a.1 b.1

pub both : (a b : Bool) → true ≡ a && b → (a ≡ true) × (b ≡ true)
both a b h = grind arith

module _ (w : Width) where
  -- slices of one length are equal if their ends are
  pub ends_tell : (n : ℕ) (xs ys : List ℕ) (f g : Option (ℕ × ℕ)) (said : Bool) → length xs ≡ length ys → n ≤ length xs → length xs ≤ 2 * n
      → AreEnds w n xs f → AreEnds w n ys g → said ≡ option_eq pairs_equal f g → (IsTrue said → xs ≡ ys) × (xs ≡ ys → IsTrue said)
  ends_tell n xs ys f g said h e k i q m = search (arith, both, nat_eq, ends_joined, eqb-true, eq-eqb)

-- the number that the bytes spell after n, the greatest first
abbrev spelled : ℕ → List ℕ → ℕ
spelled n [] = n
spelled n (b ∷ bs) = spelled (n * 256 + b) bs

pub word_spelled : (xs : List ℕ) → length xs ≡ 8 → from_be_bytes w64 xs ≡ spelled 0 xs
word_spelled (a ∷ b ∷ c ∷ d ∷ e ∷ f ∷ g ∷ h ∷ []) long = omega arith
word_spelled _ long = absurd (omega (arith, long))

below_spelled : (n a b : ℕ) (us vs : List ℕ) → n ≤ length us → n ≤ length vs → AreSmall us → a < b → spelled a (take n us) < spelled b (take n vs)
below_spelled zero a b us vs p q small less = less
below_spelled (suc n) a b (u ∷ us) (v ∷ vs) p q small less =
    below_spelled n (a * 256 + u) (b * 256 + v) us vs (omega (arith, p)) (omega (arith, q)) (λ k. small (suc k)) (omega (arith, small 0, less))
below_spelled _ a b _ _ p q small less = grind arith

pub order_spelled : (n a : ℕ) (us vs : List ℕ) → n ≤ length us → n ≤ length vs → AreSmall us → AreSmall vs → spelled a (take n us) ≢ spelled a (take n vs)
    → nat_cmp (spelled a (take n us)) (spelled a (take n vs)) ≡ slice_cmp nat_cmp us vs
order_spelled zero a us vs p q small other_small apart = absurd (apart refl)
order_spelled (suc n) a [] vs p q small other_small apart = absurd (omega (arith, p))
order_spelled (suc n) a (u ∷ us) [] p q small other_small apart = absurd (omega (arith, q))
order_spelled (suc n) a (u ∷ us) (v ∷ vs) p q small other_small apart =
    by (order_spelled n (a * 256 + u) us vs (omega (arith, p)) (omega (arith, q)) (λ k. small (suc k)) (λ k. other_small (suc k))) (nat_cmp u v) refl (ranks u v)
  where
    by : (spelled (a * 256 + u) (take n us) ≢ spelled (a * 256 + u) (take n vs)
        → nat_cmp (spelled (a * 256 + u) (take n us)) (spelled (a * 256 + u) (take n vs)) ≡ slice_cmp nat_cmp us vs)
        → (r : Ordering) → nat_cmp u v ≡ r → MatchOrdering r (u < v) (u ≡ v) (v < u)
        → nat_cmp (spelled (a * 256 + u) (take n us)) (spelled (a * 256 + v) (take n vs)) ≡ ordering_then (nat_cmp u v) (slice_cmp nat_cmp us vs)
    by more Less e l =
        let less : spelled (a * 256 + u) (take n us) < spelled (a * 256 + v) (take n vs) =
        below_spelled n (a * 256 + u) (a * 256 + v) us vs (omega (arith, p)) (omega (arith, q)) (λ k. small (suc k)) (omega (arith, l)) in
        sym (nat_cmp_is (spelled (a * 256 + u) (take n us)) (spelled (a * 256 + v) (take n vs)) Less less)
        ∙ ap (λ (r : Ordering). ordering_then r (slice_cmp nat_cmp us vs)) (sym e)
    by more Greater e l =
        let greater : spelled (a * 256 + v) (take n vs) < spelled (a * 256 + u) (take n us) =
        below_spelled n (a * 256 + v) (a * 256 + u) vs us (omega (arith, q)) (omega (arith, p)) (λ k. other_small (suc k)) (omega (arith, l)) in
        sym (nat_cmp_is (spelled (a * 256 + u) (take n us)) (spelled (a * 256 + v) (take n vs)) Greater greater)
        ∙ ap (λ (r : Ordering). ordering_then r (slice_cmp nat_cmp us vs)) (sym e)
    by more Equal e l = grind arith

pub order_of_words : (xs ys : List ℕ) → AreSmall xs → AreSmall ys → (x y : ℕ)
    → (8 ≤ length xs) × (x ≡ from_be_bytes w64 (take 8 xs)) → (8 ≤ length ys) × (y ≡ from_be_bytes w64 (take 8 ys)) → x ≢ y
    → nat_cmp x y ≡ slice_cmp nat_cmp xs ys
order_of_words xs ys small other_small x y first other_first apart =
    let is : x ≡ spelled 0 (take 8 xs) = first.1 ∙ word_spelled (take 8 xs) (length-take-le 8 xs first.0) in
    let other_is : y ≡ spelled 0 (take 8 ys) = other_first.1 ∙ word_spelled (take 8 ys) (length-take-le 8 ys other_first.0) in
    ap (λ (w : ℕ). nat_cmp w y) is ∙ ap (λ (w : ℕ). nat_cmp (spelled 0 (take 8 xs)) w) other_is
    ∙ order_spelled 8 0 xs ys first.0 other_first.0 small other_small (λ equal. apart (is ∙ equal ∙ sym other_is))
