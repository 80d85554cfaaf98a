-- The lemmas that an attribute names for the goals of a function: several, or one whose name it cannot spell.
use Rattle.jsonb_doc.proofs.Lemmas.{HasKeys-from, HasSpotsLeft-empty, HeadedBy-unique, IsCharBoundary-from_take, KeysLeft-start, StartWith-begin, Validates-along, Validates-exact, by_rest, common_steps, div-eq_of_lt, earlier_below, exchanged, few, fewer_in_front, first_there, get_or_past, grown, length-append, length-heads_after, length-number_payload, ltb-false, mul-mod_left, nat_lt, not_zero_of, parts-Object, past_128_bits, quotient_small, same_left, stack_steps, take_at, values_parts-last, walk_falls_inward, walk_falls_outward, within_popped, mod_below, stays, entry_count, length-words, is_equal-true, equal_from_tree_cmp, tree_cmp-equal, equal_from_test, StartWith-length, one-le-pow, length-key_words, fewer_parts, parts-Array, some_tree_parts, ltb-true, scaled_pos, to_z-of_z, int_cmp_scaled, int_cmp, StandBefore-joined, IsPart-some, IsPart-size, IsPart-end, entries_parts-last, parts, object_decodes, values_within, entries_object, opened, take_all, null_content, false_content, true_content, text_content, number_content, some_injective, number_fails, reads_number, extension_content, constant_empty, array_parts, object_parts, Decodes-array, Decodes-object, array_too_long, object_too_long, err_is, err_along, object_same}
use Rattle.std.proofs.lemmas.Str.{IsUtf8-from_ascii}
use Rattle.jsonb_doc.proofs.Common.{length-take-le}
use Rattle.jsonb_doc.proofs.AsciiLemmas.{ascii_of_mask}
use Rattle.jsonb_doc.proofs.WriterLemmas.{first_read}

pub ruleset checking_check = (Validates-exact)

pub ruleset checking_check_document = (Validates-along)

pub ruleset checking_skip_keys = (common_steps, HasKeys-from)

pub ruleset one_header = (HeadedBy-unique)

pub ruleset entries_first = (first_read, first_there, not_zero_of)

pub ruleset collecting_split_text = (take_at, length-append, IsCharBoundary-from_take)

pub ruleset sorting_are_unique = (few, common_steps, same_left)

pub ruleset writing_write_container = (walk_falls_inward, walk_falls_outward)

pub ruleset key_search_find_in_block = (KeysLeft-start)

pub ruleset layout_split_entry = (StartWith-begin, StartWith-length)

pub ruleset payload_push_interval = (common_steps, grown, stays)

pub ruleset pieces_joined_pieces = (earlier_below, nat_lt, get_or_past, length-heads_after, ltb-false, within_popped, stack_steps)

pub ruleset writer_put_number = (length-number_payload)

pub ruleset rounding_exact_quotient = (mul-mod_left, quotient_small)

pub ruleset rounding_nearest_whole = (mod_below, div-eq_of_lt, by_rest, past_128_bits)

pub ruleset spot_iter_iterator_next = (common_steps, HasSpotsLeft-empty)

pub ruleset release_with_behind = (exchanged, parts-Object, fewer_in_front, fewer_parts)

pub ruleset release_without_value = (values_parts-last)

pub ruleset entries_len = (entry_count, length-words)

pub ruleset laws_equal_in_order = (is_equal-true, equal_from_tree_cmp, tree_cmp-equal, equal_from_test)

pub ruleset number_power_of_ten = (one-le-pow)

pub ruleset pairiter_len = (length-key_words)

pub ruleset utf8_block_is_ascii = (ascii_of_mask, length-take-le)

pub ruleset utf8_is_ascii = (get_or_past)

pub ruleset utf8_is_utf8 = (IsUtf8-from_ascii)

pub ruleset release_without_inner = (parts-Array, some_tree_parts, fewer_in_front, values_parts-last)

pub ruleset number_order_exact_cmp = (ltb-true, scaled_pos, to_z-of_z, int_cmp_scaled, one-le-pow, int_cmp)

pub ruleset lengths_skip_contents = (common_steps, StandBefore-joined, IsPart-some, IsPart-size, IsPart-end)

pub ruleset release_without_member = (common_steps, entries_parts-last, parts-Object, some_tree_parts, fewer_in_front, parts)

pub ruleset object_builder_build = (common_steps, object_decodes, values_within)

pub ruleset rewriting_open = (common_steps, entries_object, opened, take_all)

pub ruleset scalar_contents = (null_content, false_content, true_content, text_content, number_content, some_injective, number_fails, reads_number, extension_content, constant_empty)

pub ruleset nesting_split_parts = (array_parts, object_parts, Decodes-array, Decodes-object)

pub ruleset frame_fill = (array_too_long, object_too_long, err_is, err_along, object_same)
