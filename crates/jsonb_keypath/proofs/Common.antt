-- The names that most proofs cite, passed on from one place. Declares nothing.
pub use Rattle.std.proofs.Common.{◌≡◌, ℕ, ◌<◌, List, [], ◌∷◌, ◌++◌, length, drop, Bool, true, false, cond, Some, None, refl, ap, ◌∙◌, subst, arith, nat_eq, ◌==◌, ◌+◌, ◌*◌, not, Option, encode_utf8, map, ◌&&◌, ℤ, string_bytes, ◌≤◌, ◌^◌, nat_lt, take_while, append_assoc, length-append, IfSome, pos, negsuc, ◌||◌, flat_map, if◌then◌else◌, sym, option_map, Result, Ok, Err, FitsSigned, to_z, of_z, zero, suc, ◌-◌, codes, ◌/◌, get_or, take, encode_utf8_all, Vec, Global, vec_len, vec_capacity}
pub use Rattle.jsonb_doc.proofs.Common.{nat_tests, Decides, with_sign, AllByRecursion, decimal, w64, to_z-of_z, option_and_then, append-nil, common_steps, has_written_append, HasWritten, IsPlainFormatter, w32}
pub use Rattle.jsonb_doc.proofs.Tables.{AreRows}
pub use Rattle.jsonb_keypath.specs.ErrorPosition.{perhaps}
unfoldable pub use Rattle.jsonb_keypath.specs.ErrorPosition.{key_front, closing_brace, after_keys, inside_front, key_path_front}
pub use Rattle.jsonb_keypath.specs.KeyPathGrammar.{Key, index, quoted_name, unquoted_name, key_list}
unfoldable pub use Rattle.jsonb_keypath.specs.KeyPathGrammar.{spaced_key, key, some_keys, no_keys, key_path}
pub use Rattle.jsonb_keypath.specs.KeyPathText.{is_plain_name, is_word_byte, quoted_text, name_text, key_text, key_path_text, without_quotes, quoted_byte, IsPlainKey}
pub use Rattle.jsonb_keypath.specs.KeyPathViews.{key_view, key_paths_view, owned_key_view, owned_key_paths_view}
pub use Rattle.jsonb_keypath.specs.Private.KeysView.{keys_view}
pub use Rattle.jsonb_keypath.specs.Private.LaterKeys.{another_key, other_key_text}
pub use Rattle.jsonb_keypath.specs.Private.Units.{excluded, unit_bytes}
pub use Rattle.jsonb_keypath.specs.Rules.{Parsed, Rule, give, ◌>>◌, only_if, literal, bytes, ◌</>◌, parsed_map, all_consuming, ◌>>=◌, turn, list_of}
unfoldable pub use Rattle.jsonb_keypath.specs.Rules.{repeat, up_to}
pub use Rattle.jsonb_keypath.specs.TokenLaws.{ReadsSome, IsRun, IsText}
pub use Rattle.jsonb_keypath.specs.Tokens.{escaped, hex_digit, byte_as, is_unescaped, is_stop, is_quote, ahead, past, is_space, is_within, int32}
unfoldable pub use Rattle.jsonb_keypath.specs.Tokens.{unit, units, text, name, quoted, escape, unicode_escape, code_unit, four_hex_digits, ws, sign, natural, natural_below, integer, integer_within}
pub use Rattle.jsonb_keypath.specs.declared.key_path.KeyPath.{KeyPath}
pub use Rattle.jsonb_keypath.specs.declared.key_path.KeyPath.TheVariants.{Index, QuotedName, Name}
pub use Rattle.jsonb_keypath.specs.declared.key_path.KeyPaths.{KeyPaths}
pub use Rattle.jsonb_keypath.specs.declared.owned.OwnedKeyPath.{OwnedKeyPath}
pub use Rattle.jsonb_keypath.specs.declared.owned.OwnedKeyPaths.{OwnedKeyPaths}
pub use Rattle.std.proofs.Math.Seq.{take-append_seam, drop-append_seam}
pub use Rattle.std.proofs.Output.{has_written_of_eq}
pub use Rattle.std.proofs.lemmas.Bool.Decides.{Decides-int_eq, Decides-eqb, Decides-ltb}
pub use Rattle.std.proofs.lemmas.Fmt.{IsAscii-from_digits, decimal_is_IsNumeral}
pub use Rattle.std.proofs.lemmas.Grind.{flat_map-append}
pub use Rattle.std.proofs.lemmas.List.{length-drop, flat_map_more, map_more, map_push}
pub use Rattle.std.proofs.lemmas.List.Folds.{length-prefix_len}
pub use Rattle.std.proofs.lemmas.List.Sums.{take_while-cons, prefix_len-le-length}
pub use Rattle.std.proofs.lemmas.Option.{same_Some}
pub use Rattle.std.proofs.lemmas.Slice.Eq.{slice_eq-Decides}
pub use Rattle.std.proofs.lemmas.Str.{IsUtf8-from_ascii, is_utf8-from_IsUtf8, encodes-append, IsUtf8-from_is_utf8, IsUtf8-string_bytes}
pub use Rattle.std.proofs.lemmas.Str.Parse.{parse_digits, numerals_by_value, tells_digits}
pub use Rattle.std.specs.Char.{is_ascii_digit, digit_value}
pub use Rattle.std.specs.Char.Utf16.{is_high_surrogate, is_low_surrogate, surrogate_pair_char}
pub use Rattle.std.specs.Cmp.Lexicographic.{pointwise}
pub use Rattle.std.specs.Cow.{cow_str_bytes}
pub use Rattle.std.specs.Fmt.{signed_decimal}
unfoldable pub use Rattle.std.specs.Fmt.{digits}
pub use Rattle.std.specs.List.{concat, starts_with, prefix_len, list_all}
pub use Rattle.std.specs.Option.{option_or}
pub use Rattle.std.specs.Result.{result_ok, OkIff}
pub use Rattle.std.specs.Str.{IsUtf8, IsAscii}
unfoldable pub use Rattle.std.specs.Str.{is_utf8, chars}
pub use Rattle.std.specs.Str.Parse.{digits_value, AllDigits, ParsesUnsigned}
pub use lib.Utf8.{next}
unfoldable pub use lib.Utf8.{encode}
pub use mir.Syntax.{Width}
pub use mir.Val.{hbits}
