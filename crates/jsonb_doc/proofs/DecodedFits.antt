-- What a payload of bytes is read as fits, is read from no shorter payload than the one that is written, and so the tree that bytes decode to fits.
use Rattle.jsonb_doc.proofs.Common.{◌≡◌, ◌⊎◌, ℕ, zero, suc, ◌+◌, ◌*◌, ◌/◌, ◌^◌, ◌<◌, ◌≤◌, List, [], ◌∷◌, ◌++◌, length, take, drop, refl, sym, ap, ◌∙◌, arith, true, Some, inl, inr, ℤ, pos, ◌==◌, FitsSigned, slice_index, Width, w32, w64, w128, byte_len, cast_signed, cast_unsigned, sfits_to_z, Fits-bits, drop_of_length-le, div-mul-add, append-nil, length-take-le, take-append-drop, drop-drop, get_or_append_left, get_or-append-add, get_or_past, cases_lt, lt-ltb, le-ltb, nat_tests, of_z-to_z, big_number, big_bytes, twos_complement, big_from-lt, big_from-cons, AreBytes, Variant, int64, uint64, decimal64, decimal128, number_from, zero_number, FitsNumber, Extension, binary, date, timestamp, timestamp_tz, interval, FitsExtension, is_width, signed, fixed, fixed_bytes, signed_size, unsigned_width, number_of, number_payload, number_payload_of, extension_payload, extension_of, Tree, number, array, object, Trees, no_trees, tree, Pairs, no_pairs, pair, count, keys, Form, canonical, header, HeadedBy, AreKeys, key_bytes, IsContent, AreEntries, AreValues, IsDocument, Decodes, content_size, elements_size, values_size, IsInRange, AreInRange, ValuesAreInRange, HasShortParts, HasShortElements, HasShortValues, AreShortKeys, Fits, length-drop}
use Rattle.jsonb_doc.specs.Number.{Number}
use Rattle.jsonb_doc.proofs.CanonicalLemmas.{fits_from, width_bound, in_any}
use Rattle.jsonb_doc.proofs.LimitLemmas.{same_length, number_cases, extension_cases, length-array, length-object, length-contents}

-- ---- bytes

pub AreBytes-right : (a b : List ℕ) → AreBytes (a ++ b) → AreBytes b
AreBytes-right a b h = λ i. let e = get_or-append-add a b i 0 in rw (← e) (h (length a + i))

pub AreBytes-drop : (n : ℕ) (xs : List ℕ) → AreBytes xs → AreBytes (drop n xs)
AreBytes-drop n xs h = search (arith, AreBytes-right (take n xs) (drop n xs) (rw (take-append-drop n xs) h))

pub AreBytes-tail : (x : ℕ) (xs : List ℕ) → AreBytes (x ∷ xs) → AreBytes xs
AreBytes-tail x xs h = λ i. h (suc i)

-- as many bytes of one number are the same
digits : (p x y a b : ℕ) → a < p → b < p → x * p + a ≡ y * p + b → (x ≡ y) × (a ≡ b)
digits p x y a b h k e = search (arith, div-mul-add x p a h, ap (λ m. m / p) e, div-mul-add y p b k)

pub bytes_from : (n : ℕ) (xs ys : List ℕ) → length xs ≡ n → length ys ≡ n → AreBytes xs → AreBytes ys → big_number n xs ≡ big_number n ys → xs ≡ ys
bytes_from zero [] [] hx hy bx by e = refl
bytes_from zero (x ∷ xs) ys hx hy bx by e = absurd (omega arith)
bytes_from zero xs (y ∷ ys) hx hy bx by e = absurd (omega arith)
bytes_from (suc n) [] ys hx hy bx by e = absurd (omega arith)
bytes_from (suc n) xs [] hx hy bx by e = absurd (omega arith)
bytes_from (suc n) (x ∷ xs) (y ∷ ys) hx hy bx by e =
    let fx = AreBytes-tail x xs bx in
    let fy = AreBytes-tail y ys by in
    let both = digits (256 ^ n) x y (big_number n xs) (big_number n ys) (big_from-lt 0 n xs fx) (big_from-lt 0 n ys fy)
    (rw (big_from-cons 0 n x xs, big_from-cons 0 n y ys) at e) in
    cc (both.0, bytes_from n xs ys (omega arith) (omega arith) fx fy both.1)

written_are_bytes : (n x : ℕ) → AreBytes (big_bytes n x)
written_are_bytes zero x = λ i. omega arith
written_are_bytes (suc n) x = grind (arith, written_are_bytes n x)

-- ---- fields of fixed width

-- the first field is written as it is read
field_again : (w : Width) (xs : List ℕ) → cast_unsigned w (cast_signed w (big_number (byte_len w) xs)) ≡ big_number (byte_len w) xs → byte_len w ≤ length xs
    → AreBytes xs
    → fixed_bytes w (fixed w xs) ++ drop (byte_len w) xs ≡ xs
field_again w xs h e k = grind (arith, bytes_from, written_are_bytes, append-nil, length-take-le, take-append-drop)

field32 : (xs : List ℕ) → 4 ≤ length xs → AreBytes xs → fixed_bytes w32 (fixed w32 xs) ++ drop 4 xs ≡ xs
field32 xs long bytes = field_again w32 xs (of_z-to_z w32 (big_number 4 xs) (big_from-lt 0 4 xs bytes)) long bytes

fits32 : (xs : List ℕ) → AreBytes xs → FitsSigned w32 (fixed w32 xs)
fits32 xs bytes = sfits_to_z (Fits-bits {w = w32} {n = big_number 4 xs} 32 tt (big_from-lt 0 4 xs bytes))

fits64 : (xs : List ℕ) → AreBytes xs → FitsSigned w64 (fixed w64 xs)
fits64 xs bytes = sfits_to_z (Fits-bits {w = w64} {n = big_number 8 xs} 64 tt (big_from-lt 0 8 xs bytes))

fits128 : (xs : List ℕ) → AreBytes xs → FitsSigned w128 (fixed w128 xs)
fits128 xs bytes = sfits_to_z (Fits-bits {w = w128} {n = big_number 16 xs} 128 tt (big_from-lt 0 16 xs bytes))

-- ---- integers of each width

width_cases : (k : ℕ) → is_width k ≡ true → (k ≡ 1) ⊎ ((k ≡ 2) ⊎ ((k ≡ 4) ⊎ (k ≡ 8)))
width_cases k h = grind (arith, nat_tests)

-- a number below the power of a width takes no wider one
width_1 : (n : ℕ) → n < 2 ^ 8 → unsigned_width n ≤ 1
width_1 n h = grind (arith, nat_tests)

-- an integer in k bytes fits, and is written in no more
signed_within : (k : ℕ) (xs : List ℕ) → is_width k ≡ true → AreBytes xs → FitsSigned w64 (signed k xs) × (unsigned_width (signed_size (signed k xs)) ≤ k)
signed_within k xs is bytes = elim (width_cases k is) [
  | inl e ↦
      let both : FitsSigned w64 (twos_complement 1 (big_number 1 xs)) × (signed_size (twos_complement 1 (big_number 1 xs)) < 2 ^ 8) =
      grind (arith, cases_lt, lt-ltb, le-ltb, big_from-lt 0 1 xs bytes) in
      rw e (both.0, width_1 (signed_size (signed 1 xs)) both.1)
  | inr (inl e) ↦ grind (arith, cases_lt, lt-ltb, le-ltb, nat_tests)
  | inr (inr (inl e)) ↦ grind (arith, cases_lt, lt-ltb, le-ltb, nat_tests)
  | inr (inr (inr e)) ↦ grind (arith, cases_lt, lt-ltb, le-ltb, width_bound)
]

unsigned_within : (k : ℕ) (xs : List ℕ) → is_width k ≡ true → AreBytes xs → (big_number k xs < 2 ^ 64) × (unsigned_width (big_number k xs) ≤ k)
unsigned_within k xs h e = grind (arith, width_cases, width_1, nat_tests, width_bound)

-- ---- numbers

-- a number is written in as many bytes as its parts, or in one
length-from : (variant : Variant) (whole : ℤ) (scale k : ℕ) → 1 ≤ k → length (number_payload_of variant whole scale) ≤ k
    → length (number_payload (number_from variant whole scale)) ≤ k
length-from variant whole scale k h e = grind arith

length-int64 : (whole : ℤ) (k : ℕ) → unsigned_width (signed_size whole) ≤ k → length (number_payload_of int64 whole 0) ≤ suc k
length-int64 whole k h = grind arith

length-uint64 : (n k : ℕ) → unsigned_width n ≤ k → length (number_payload_of uint64 (pos n) 0) ≤ suc k
length-uint64 n k h = grind arith

-- a number that is read fits, and is written in no more bytes
pub number_within : (bytes : List ℕ) (n : Number) → AreBytes bytes → number_of bytes ≡ Some n → FitsNumber n × (length (number_payload n) ≤ length bytes)
unfolding number_of
number_within [] n all e = absurd (cc)
number_within (first ∷ rest) n all e =
    let bytes = AreBytes-tail first rest all in
    elim (number_cases (first == 0x00) (first == 0x40) (first == 0x50) (first == 0x70) (length rest == 0) (is_width (length rest)) (length rest == 9)
    (length rest == 17) zero_number (number_from int64 (signed (length rest) rest) 0) (number_from uint64 (pos (big_number (length rest) rest)) 0)
    (number_from decimal64 (fixed w64 rest) (slice_index rest 8)) (number_from decimal128 (fixed w128 rest) (slice_index rest 16)) n e) [
      | inl f ↦ rw (← f.1) (fits_from uint64 (pos 0) 0 (omega arith, refl), omega arith)
      | inr (inl f) ↦
          let within = signed_within (length rest) rest f.0 bytes in
          rw (← f.1) (
            fits_from int64 (signed (length rest) rest) 0 (within.0, refl),
            length-from int64 (signed (length rest) rest) 0 (suc (length rest))
                (omega arith) (length-int64 (signed (length rest) rest) (length rest) within.1),
          )
      | inr (inr (inl f)) ↦
          let within = unsigned_within (length rest) rest f.0 bytes in
          rw (← f.1) (
            fits_from uint64 (pos (big_number (length rest) rest)) 0 (within.0, refl),
            length-from uint64 (pos (big_number (length rest) rest)) 0
                (suc (length rest)) (omega arith) (length-uint64 (big_number (length rest) rest) (length rest) within.1),
          )
      | inr (inr (inr (inl f))) ↦
          let len = same_length (length rest) 9 f.0 in
          rw (← f.1) (
            fits_from decimal64 (fixed w64 rest) (slice_index rest 8) (fits64 rest bytes, bytes 8),
            length-from decimal64 (fixed w64 rest)
                (slice_index rest 8) (suc (length rest)) (omega arith) (grind (arith, len)),
          )
      | inr (inr (inr (inr f))) ↦
          let len = same_length (length rest) 17 f.0 in
          rw (← f.1) (
            fits_from decimal128 (fixed w128 rest) (slice_index rest 16) (fits128 rest bytes, bytes 16),
            length-from decimal128 (fixed w128 rest)
                (slice_index rest 16) (suc (length rest)) (omega arith) (grind (arith, len)),
          )
    ]

-- ---- extension values

last64 : (xs : List ℕ) → length xs ≡ 8 → AreBytes xs → fixed_bytes w64 (fixed w64 xs) ≡ xs
last64 xs len bytes =
    let none : drop 8 xs ≡ [] = drop_of_length-le xs {i = 8} (omega arith) in
    sym (append-nil (fixed_bytes w64 (fixed w64 xs))) ∙ ap (λ ys. fixed_bytes w64 (fixed w64 xs) ++ ys) (sym none)
    ∙ (field_again w64 xs (of_z-to_z w64 (big_number 8 xs) (big_from-lt 0 8 xs bytes)) (omega arith) bytes)

zoned : (xs : List ℕ) → length xs ≡ 12 → AreBytes xs → fixed_bytes w32 (fixed w32 xs) ++ fixed_bytes w64 (fixed w64 (drop 4 xs)) ≡ xs
zoned xs len bytes = cc (last64 (drop 4 xs) (omega (arith, length-drop 4 xs)) (AreBytes-drop 4 xs bytes), field32 xs (omega arith) bytes)

spanned : (xs : List ℕ) → length xs ≡ 16 → AreBytes xs
    → fixed_bytes w32 (fixed w32 xs) ++ (fixed_bytes w32 (fixed w32 (drop 4 xs)) ++ fixed_bytes w64 (fixed w64 (drop 8 xs))) ≡ xs
spanned xs len bytes = cc (drop-drop 4 4 xs, zoned (drop 4 xs) (omega (arith, length-drop 4 xs)) (AreBytes-drop 4 xs bytes), field32 xs (omega arith) bytes)

-- an extension value that is read fits, and is written so
pub extension_within : (bytes : List ℕ) (x : Extension) → AreBytes bytes → extension_of bytes ≡ Some x → FitsExtension x × (bytes ≡ extension_payload x)
unfolding extension_of
extension_within [] x all e = absurd (cc)
extension_within (first ∷ rest) x all e =
    let bytes = AreBytes-tail first rest all in
    elim (extension_cases (first == 0x00) (first == 0x10) (first == 0x20) (first == 0x30) (first == 0x40) (length rest == 4) (length rest == 8)
    (length rest == 12) (length rest == 16) (binary rest) (date (fixed w32 rest)) (timestamp (fixed w64 rest))
    (timestamp_tz (fixed w32 rest) (fixed w64 (drop 4 rest))) (interval (fixed w32 rest) (fixed w32 (drop 4 rest)) (fixed w64 (drop 8 rest))) x e) [
      | inl f ↦ rw (← f.1, same_length first 0x00 f.0) (bytes, refl)
      | inr (inl f) ↦ grind (arith, drop_of_length-le, append-nil, field32, same_length, fits32)
      | inr (inr (inl f)) ↦
          let written = last64 rest (same_length (length rest) 8 f.1) bytes in
          rw (← f.2, same_length first 0x20 f.0) (fits64 rest bytes, ap (λ ys. 0x20 ∷ ys) (sym written))
      | inr (inr (inr (inl f))) ↦
          let written = zoned rest (same_length (length rest) 12 f.1) bytes in
          let others = AreBytes-drop 4 rest bytes in
          rw (← f.2, same_length first 0x30 f.0) ((fits32 rest bytes, fits64 (drop 4 rest) others), ap (λ ys. 0x30 ∷ ys) (sym written))
      | inr (inr (inr (inr f))) ↦
          let written = spanned rest (same_length (length rest) 16 f.1) bytes in
          let others = AreBytes-drop 4 rest bytes in
          let last = AreBytes-drop 8 rest bytes in
          rw (← f.2, same_length first 0x40 f.0) ((fits32 rest bytes, fits32 (drop 4 rest) others, fits64 (drop 8 rest) last), ap (λ ys. 0x40 ∷ ys) (sym written))
    ]

-- the parts of bytes are bytes
pub joined_bytes : (bytes front back : List ℕ) → bytes ≡ front ++ back → AreBytes bytes → AreBytes front × AreBytes back
joined_bytes bytes front back e all =
    let joined : AreBytes (front ++ back) = rw (← e) all in
    (grind (arith, cases_lt, get_or_append_left, get_or_past), AreBytes-right front back joined)

pub headed_bytes : (bytes : List ℕ) (kind n : ℕ) (ws cs : List ℕ) → HeadedBy bytes kind n (ws ++ cs) → AreBytes bytes → AreBytes cs
headed_bytes bytes kind n ws cs h all =
    AreBytes-right ws cs (joined_bytes bytes (header kind n) (ws ++ cs) h.joined all).1

short_keys : (ks : List (List ℕ)) → AreKeys ks → AreShortKeys ks
short_keys [] h = tt
short_keys (key ∷ ks) h = (h.0.1, short_keys ks h.2)

mutual
  -- what is read is within the ranges of its types and the limits, and at least as long as its canonical content
  content_fits : (t : Tree) (kind : ℕ) (bytes : List ℕ) → AreBytes bytes → IsContent number_of t kind bytes
      → IsInRange t × HasShortParts canonical t × (content_size canonical t ≤ length bytes)
  content_fits (number n) kind bytes all h = let (fits, least) = number_within bytes n all h.1 in (fits, tt, least)
  content_fits (array ts) kind bytes all (is, c) =
      let inner = headed_bytes bytes 4 (count ts) c.words c.contents c.headed all in
      let (range, short, least) = entries_fit ts c.words c.contents inner c.parts in
      (range, (c.headed.fits, short), omega (arith, length-array number_of bytes ts c, least))
  content_fits (object ps) kind bytes all (is, c) =
      let m = c.parts in
      let inner = headed_bytes bytes 2 (length (keys ps)) c.words c.contents c.headed all in
      let rest = joined_bytes c.contents (key_bytes (keys ps)) m.value_contents m.contents_joined inner in
      let (range, short, least) = values_fit ps m.value_words m.value_contents rest.1 m.values in
      let size : content_size canonical (object ps) ≤ length bytes =
      omega (arith, length-object number_of bytes ps c, least) in
      ((m.are_keys, range), (c.headed.fits, short_keys (keys ps) m.are_keys, short), size)
  content_fits _ kind bytes all h = grind arith

  entries_fit : (ts : Trees) (ws cs : List ℕ) → AreBytes cs → AreEntries number_of ts ws cs
      → AreInRange ts × HasShortElements canonical ts × (elements_size canonical ts ≤ length cs)
  entries_fit no_trees ws cs all h = (tt, tt, omega arith)
  entries_fit (tree t ts) ws cs all e =
      let rest = joined_bytes cs e.content e.other_contents e.begin.contents_joined all in
      let (range, short, least) = content_fits t e.kind e.content rest.0 e.part in
      let (ranges, shorts, leasts) = entries_fit ts e.other_words e.other_contents rest.1 e.others in
      let size = length-contents _ _ _ _ _ _ e.begin in
      let fits = e.begin.fits in
      ((range, ranges), (omega (arith, fits, least), short, shorts), omega (arith, size, least, leasts))

  values_fit : (ps : Pairs) (ws cs : List ℕ) → AreBytes cs → AreValues number_of ps ws cs
      → ValuesAreInRange ps × HasShortValues canonical ps × (values_size canonical ps ≤ length cs)
  values_fit no_pairs ws cs all h = (tt, tt, omega arith)
  values_fit (pair key t ps) ws cs all e =
      let rest = joined_bytes cs e.content e.other_contents e.begin.contents_joined all in
      let (range, short, least) = content_fits t e.kind e.content rest.0 e.part in
      let (ranges, shorts, leasts) = values_fit ps e.other_words e.other_contents rest.1 e.others in
      let size = length-contents _ _ _ _ _ _ e.begin in
      let fits = e.begin.fits in
      ((range, ranges), (omega (arith, fits, least), short, shorts), omega (arith, size, least, leasts))

document_fits : (t : Tree) (bytes : List ℕ) → AreBytes bytes → IsDocument number_of t bytes → Fits t
document_fits t bytes all (inl h) = grind (arith, content_fits t 5 bytes all h)
document_fits t bytes all (inr c) =
    let e = c.parts in
    let rest = joined_bytes c.contents e.content e.other_contents e.begin.contents_joined (headed_bytes bytes 1 0 c.words c.contents c.headed all) in
    let fits = e.begin.fits in
    grind (arith, content_fits t e.kind e.content rest.0 e.part.1, fits)

pub decoded_fits : (form : Form) (bytes : List ℕ) (t : Tree) → AreBytes bytes → Decodes form bytes t → Fits t
decoded_fits form bytes t all h = document_fits t bytes all (in_any form t bytes h).document
