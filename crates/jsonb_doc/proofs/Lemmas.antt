-- The names that the proofs of functions cite, passed on from one place: those of Common, and lemmas. Declares nothing.
pub use Rattle.jsonb_doc.proofs.Common.{lengths_of, IsNoneOf, AreBelow, rules, length-append, arith, refl, kind_number, common_steps, ◌≡◌, ◌≢◌, ℕ, ◌+◌, ◌<◌, nat_eq, if◌then◌else◌, sym, ap, ◌∙◌, length, Some, None, ◌↔◌, option_copied, false≢true, nat_tests, nil_from_length, NumberReader, number_or_unsupported, HasContent, HasEntries, HasLarge, Container, ◌*◌, ◌≤◌, ReducesTo, true, false, inl, inr, null, boolean, number, text, extension, number_parts, extension_view, List, ◌∷◌, ◌-◌, take_all, drop_all, min, ◌++◌, [], reverse, ◌==◌, vec_len, length-reverse, filled, IsPieceOf, Failed, OutOfMemory, with_inner, subst, EntryParts, number_reader, IsContent, Decodes, bytes_at, State, takes_value, HoldsLevel, Piece, Root, is_none, ◌^◌, take, total_len, member_entries, map, PieceEntry, entry_words, key_bytes, member_keys, key_words, AreShortKeys, Option, String, Global, IsEntryOf, array, object, keys, w32, w64, append_assoc, appended, AreAround, HeaderKind, Member, append-nil, Run, Nested, Frame, overwrites, take_at, Level, ends, HoldsFrame, LeadsTo, object_of, same_from_push, WaitsFor, array_of, array_begins, object_begins, key_is, value_is, first_rest, no_events, Happen, TextEvent, shadow, Utf8, HoldsState, IsCharBoundary-from_take, Tree, unique, nat_cmp, is_lt, slice_cmp, nat_list_cmp_total, ranks_by, answers_always, has_lower_key, keys_first, IsWriting, Form, Around, length-between, IsPart, Part, HoldParts, Vec, IsOutOfMemoryOrTooLarge, IsWalking, header_number, any, IsItemOf, Item, EntryKind, Unknown, drop, slice_index_or, take_rest, first_chunks, HoldKeys, KeysLeft, document, equal_from_test, is_equal-true, is_equal_equiv, sum, parts_of, max, Trees, AreEntries, deepest, ltb-true, int_cmp, one-le-pow, int_cmp_scaled, zero, suc, ◌/◌, ◌%◌, sub-one, decimal, has_written_append, low_digits, HasWritten, IsPlainFormatter, has_key, AllZip-long, string_bytes, length-map, entry_of, entry_parts, member, FitsEntry, All-head, All-rest, All-same, FitsMember, All, keys_of, values_of, contents_of_entries, words_of_entries, Err, Pairs, Error, IsDecodingError, PairIter, ReadsPair, GivesPair, HasPairsLeft, to_z-of_z, fixed_bytes, Result, Ok, OnOk, is_ok, cases_lt, bytes_high_first, length-bytes_high_first, big_bytes, ℤ, pos, negsuc, w128, cast_unsigned, decimal128, number_from, number_payload, number_view, nat_lt, get_or_past, ltb-false, All-append, all_heads, stacked, joined, earlier, entry_word, container_entry, header, contents_of_runs, words_of_runs, mul-mod_left, div-eq_of_lt, IsCut, IsRootShape, StoredEntry, Shape, FitsSigned, decimal64, number_cmp, short_parts, none-some, err_from_is_err_and, Scalar, IfSome, short_value, ShortNumber, trees_of, HasSpotsLeft, SpotIter, ReadsSpot, spots_room, GivesSpot, tree_seen, filled_tree, with_part, filled_parts, Number, iter_rest, trees_seen, tree_parts, values_parts, members_seen, entries_parts, insert_pairs, part_tree, pairs_of, elements, members, AreKeys, StandsFor, item_size, HasElementsLeft, HasEntriesLeft, HasPairEntriesLeft, entries_room, MakesWhole, KeepsNormal, SeesItem, open_room, value_parts, ◌&&◌, is_equal, value_tree, parts, values_same, entries_same, told_parts, waiting_parts, remaining, length-drop, mod_below, Less}
unfoldable pub use Rattle.jsonb_doc.proofs.Common.{number_of}
pub use Rattle.jsonb_doc.proofs.Basics.{not_zero_of, popped, pushed, none_around, only_ok, zero_of, scaled_pos, if_answered, zip_more, innermost, below_next, bytes_cmp_refl, or_false, same_test, or_second, shuffled, many_texts, empty_of, both_equal, bytes_cmp, same_from_bytes_cmp, many_keys}
pub use Rattle.jsonb_doc.proofs.BuilderLemmas.{level_stays, err_result, end_fails, end_out_of_memory, end_takes, holds_back, holds_inner, key_repeats, key_added, leads, refuses, root_filled, too_long, result_along, err_along, value_taken, holds_more, lone_piece, lone_part, object_closes, array_closes, is_none_from, object_fails, array_too_long, object_filled, object_too_long, object_named, object_same, err_is, both, length-heads_after, stack_steps, earlier_below, within_popped, found}
pub use Rattle.jsonb_doc.proofs.BuilderSteps.{array_built, held_count, last_is_short, element_held, stored_held, AreRising, keys_rise, front_empty, front_pushed, front_refused, AreRising-filter, front_whole}
pub use Rattle.jsonb_doc.proofs.CanonicalLemmas.{document_decodes, in_any, length-number_payload}
pub use Rattle.jsonb_doc.proofs.CheckingLemmas.{halvings-more, halvings-fewer, Leaves-along, Leaves-entries, Leaves-good, Leaves-unsupported, IsValidationError-other, IsApart-within, IsApart-less, IsApart-one, IsApart, max_of, no_parts, container_decodes, AreDeep-large, AreDeep-whole, EntriesLeft-none, EntriesLeft-next, EntriesLeft-aside, EntriesLeft, array_parts, object_parts}
unfoldable pub use Rattle.jsonb_doc.proofs.CheckingLemmas.{halvings}
pub use Rattle.jsonb_doc.proofs.CollectingLemmas.{filled_frame, waits_takes, innermost_is, none_of, ends_around, around_stay, end_event_due, outer_due, root_finished, named_frame, opened_around, same_run, array_ends, object_ends, sorted_pushed, part_opened, first_part, walk_falls_inward, walk_falls_outward, left_weight, outer_weight, refused_stays, stays_refused, due_along}
pub use Rattle.jsonb_doc.proofs.Containers.{HasDocument-scalar, IsCut-scalar, HasContent-array, HasContent-keys, HasContent-object, HasKeys-room, HeadedBy-unique, HasDocument-headed, document_scalar, array_long, object_long, length-words, Decodes-array, Decodes-object, entries_of, HasContent-headed, HasContent-kind, array_content, object_content, length-key_words, Decodes-scalar, Holds-elements, Holds-pairs, IsCut-container, array_document, object_document, IsCut-same}
pub use Rattle.jsonb_doc.proofs.DecodedFits.{extension_within, decoded_fits}
pub use Rattle.jsonb_doc.proofs.DecodedValues.{elements_held, pairs_held, first_element, first_member, first_name, no_member, sees_normal, elements_begin, elements_go_on, elements_end, members_begin, members_go_on, members_end, widest_with, array_goes_on, object_goes_on, whole_of, LeadsTo-popped, widest}
pub use Rattle.jsonb_doc.proofs.Entries.{HasEntries-nil, HasEntries-empty, HasEntries-stop, HasEntries-step, has_content_lenient, KeysAfter-none, HasKeys-from, KeysAfter-stop, KeysAfter-split, KeysAfter-join, KeysAfter, AreEntries-first, BeginWith-room, kind_below, reads_number, BeginWith-unique, told, IsPart-size, nothing_before, StandBefore-joined, IsPart-some, IsPart-end, told_lengths, lengths_grouped, lengths_of_all, sum_left, content_map}
pub use Rattle.jsonb_doc.proofs.EntryDocuments.{entry_decodes, front_is_content}
pub use Rattle.jsonb_doc.proofs.EqualValues.{short_number_cmp, short_cmp, digits_tell, equal_in_trees, equal_from_tree_cmp, tree_cmp-equal}
pub use Rattle.jsonb_doc.proofs.EventListLemmas.{plain_stands, plain_exists, event_due, event_due_anyway, happen_more, unfinished, events_of, same_tree, tree_fails, write_fails}
pub use Rattle.jsonb_doc.proofs.ExtensionsRead.{extension_back}
pub use Rattle.jsonb_doc.proofs.FieldLemmas.{value_absent, keys_behind, value_there, value_entry, KeysLeft-start, KeysLeft-end, chunk_at, key_cut, key_within, key_differs, key_passed, key_found, is_other, block_searched, found_among, none_behind, bytes_after, no_other, below_others, block_skipped, KeysLeft-further, block_among, found_at, position_after, position_found, position_missing, position_last, field_absent, field_searched, field_marks}
pub use Rattle.jsonb_doc.proofs.ItemLemmas.{long_content, content_stands, scalar_decodes, scalar_kind, item_headed, scalar_read, array_root, object_root, shape_root, readable_root}
pub use Rattle.jsonb_doc.proofs.KindLemmas.{same_kind, other_kind, differing_kind, equal_kind, kinds_told, kind_known}
pub use Rattle.jsonb_doc.proofs.LimitLemmas.{decoded_keys, array_too_large-more, decoded_members}
pub use Rattle.jsonb_doc.proofs.NumberLemmas.{as_signed, as_unsigned, power_step, below_scaled, scaled_once, quotient_small, by_rest, past_128_bits}
pub use Rattle.jsonb_doc.proofs.ObjectLemmas.{object_decodes, values_within, found_key, held_key, long_key, long_value, held_inserted, member_added, all_inserted, keys_inserted, length-inserted, below_inserted}
pub use Rattle.jsonb_doc.proofs.OneTree.{document_unique, content_unique, one_canonical_document}
pub use Rattle.jsonb_doc.proofs.PairsLemmas.{only_object, HoldsPairs-skipped, HoldsPairs-values, HasKeysLeft-first, Holds-skipped, HasPairsLeft-first, IsPairsOf-some, IsPairsOf-refused, HoldsPairs-left, IsValuesOf-some, IsPairsOf, only_array, IsElementsOf-some, IsElementsOf, key_entries, keys_held, front_of}
pub use Rattle.jsonb_doc.proofs.PartLemmas.{still, exchanged, parts-Object, fewer_in_front, fewer_parts, parts-Array, values_parts-last, some_tree_parts, entries_parts-last, as_many_parts}
pub use Rattle.jsonb_doc.proofs.ScalarLemmas.{Validates-exact, Validates-along, empty_judged, text_only, extension_only, known_only, number_refused, null_content, false_content, true_content, text_content, number_content, extension_content, some_injective, number_fails, constant_empty}
pub use Rattle.jsonb_doc.proofs.SpotsLemmas.{first_value, first_key, element_taken, member_taken, array_opened, at_spots, first_read, others_at, keys_end, object_opened, StartWith-begin, StartWith-length, Locates-has_children, Locates-scalar, no_children, Locates-document, Locates-no-scalar, array_children, object_children, object_skipped, array_elements, object_no_elements, object_values, array_no_values, no_field, array_no_field, Locates-root, scalar_end, spots_counted, HasSpotsLeft-passed, HasSpotsLeft-behind, HasSpotsLeft-empty, HasSpotsLeft-word, HasSpotsLeft-fits, HasSpotsLeft-first, PassesSpot-fits}
pub use Rattle.jsonb_doc.proofs.SpotsTaken.{no_spots_left}
pub use Rattle.jsonb_doc.proofs.TreeLists.{count-trees_of, keys-pairs_of, trees_of-elements, keys_of-members, pairs_of-members, members-pairs_of, elements-trees_of}
pub use Rattle.jsonb_doc.proofs.UniqueLemmas.{few, same_left, on_ok_along}
pub use Rattle.jsonb_doc.proofs.ValueTrees.{tree_within, tree_within-with, around_parts, tree_seen-Array, value_copied, member_copied, copied_in_order, copies_same, tree_seen-Object}
pub use Rattle.jsonb_doc.proofs.Weights.{weight_of_all, weight-pos, inner_weighs, taken_weighs, falls_inward, falls_outward}
pub use Rattle.jsonb_doc.proofs.WordLemmas.{order_of_words, ends_tell, ends_are, short_words, long_words, grown, grown_ok, stays, bytes_eq-same, bytes_eq-true, word_cancel}
pub use Rattle.jsonb_doc.proofs.WriterLemmas.{first_there, entry_count, contents_there, both_hold, room_there, whole_done, room_for_one, one_filled, closed, done_len, runs_done, opened, entries_object, entries_append, one_entry}
pub use Rattle.jsonb_doc.proofs.WriterLimits.{refused, coming_passes, refused_open, not_short, within_parts, too_many}
