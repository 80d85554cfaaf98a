-- Key paths of plain names, and of quoted names without quotes and backslashes, read back as they are.
use Rattle.jsonb_keypath.proofs.Common.{◌≡◌, ℕ, ◌<◌, List, [], ◌∷◌, length, true, Some, refl, ◌∙◌, ap, arith, map, not, zero, suc, is_ascii_digit, AllByRecursion, list_all, is_utf8, IsAscii, nat_tests, is_utf8-from_IsUtf8, IsUtf8-from_ascii, Key, index, quoted_name, unquoted_name, key_path, is_word_byte, is_plain_name, key_path_text, IsPlainKey}
use Rattle.jsonb_keypath.proofs.ReadBackLemmas.{both}
use Rattle.jsonb_keypath.proofs.KeyPathReadsBack.{IsReadable, reread, key_path-text}

plain_is_some : (text : List ℕ) → is_plain_name text ≡ true → 0 < length text
plain_is_some [] h = cc
plain_is_some (b ∷ text) h = omega arith

word_is_ascii : (b : ℕ) → is_word_byte b ≡ true → b < 128
word_is_ascii b h = grind (arith, nat_tests)

words_are_ascii : (text : List ℕ) → list_all is_word_byte text ≡ true → IsAscii text
words_are_ascii [] h i = omega arith
words_are_ascii (b ∷ text) h zero = word_is_ascii b (both (is_word_byte b) (list_all is_word_byte text) h).0
words_are_ascii (b ∷ text) h (suc i) = words_are_ascii text (both (is_word_byte b) (list_all is_word_byte text) h).1 i

plain_is_utf8 : (text : List ℕ) → is_plain_name text ≡ true → is_utf8 text ≡ true
plain_is_utf8 [] h = cc
plain_is_utf8 (b ∷ text) h =
    let parts = both (not (is_ascii_digit b)) (list_all is_word_byte (b ∷ text)) h in
    is_utf8-from_IsUtf8 (b ∷ text) (IsUtf8-from_ascii (b ∷ text) (words_are_ascii (b ∷ text) parts.1))

plain_is_readable : (k : Key) → IsPlainKey k → IsReadable k
plain_is_readable (index i) is = is
plain_is_readable (quoted_name text) is = (is.0, is.1)
plain_is_readable (unquoted_name text) is = (plain_is_some text is, plain_is_utf8 text is)

plain_are_readable : (keys : List Key) → AllByRecursion IsPlainKey keys → AllByRecursion IsReadable keys
plain_are_readable [] are = tt
plain_are_readable (k ∷ keys) are = (plain_is_readable k are.0, plain_are_readable keys are.1)

reread-plain : (k : Key) → IsPlainKey k → reread k ≡ k
reread-plain (index i) is = refl
reread-plain (quoted_name text) is = refl
reread-plain (unquoted_name text) is = rw is refl

map-reread : (keys : List Key) → AllByRecursion IsPlainKey keys → map reread keys ≡ keys
map-reread [] are = refl
map-reread (k ∷ keys) are = rw (reread-plain k are.0, map-reread keys are.1) refl

pub plain_reads_back : (keys : List Key) → AllByRecursion IsPlainKey keys → key_path (key_path_text keys) ≡ Some keys
plain_reads_back keys are = key_path-text keys (plain_are_readable keys are) ∙ ap (λ (found : List Key). Some found) (map-reread keys are)
