-- The names that the proofs of functions cite, passed on from one place: those of Common, and lemmas. Declares nothing.
pub use Rattle.jsonb_raw.proofs.Common.{slice_index_or, get_or-map, ArePlaced, bytes_eq-true, eq-or-lt_of_le, ⊎_elim, contents_of, DecideNames, IsNameAt, first_place, HasKeysOf, HasTableOf, ◌||◌, Fits, CountsKeys, AreStrings, HasTexts, is_in, slice_get_past, drop_of_length-le, ◌++◌, ap, ◌∙◌, arith, ap₂, ◌∷◌, [], append_assoc, to_be_bytes, rules, parts, ◌≡◌, ◌+◌, ℕ, List, Some, reverse, Tree, Form, equality_key, equality_start, IsLevelOf, length, take, drop, w32, to_z-of_z, as_elements, insert_place, sym, unwrap_or, ◌-◌, Decodes, HoldTrees, ◌<◌, Trees, HasEntriesLeft, AreHashed, pos, nat_tests, one-le-pow, values, true, false, true≢false, list_any, false_from_ne_true, elements, is_equal, overlap, IsIn, DecideOverlap, and_le_r, entries_bound, inl, inr, ◌⊎◌, ◌≤◌, err_from_is_err_and, decoded_fits, ◌^◌, or_false, StandsFor, HasElementsLeft, not, nat_eq, refl, subst, select_occurrences, RunsHold, keeps, append-nil, None, HaveSeen, Decodes-array, entry_decodes, not_short, kind_known, other_kind, array, trees_of, length-append, map, keys_of, values_of, text, object, pairs_of, Less, Equal, Greater, nat_cmp, slice_cmp, keys, Pairs, DecideFrom, names_left, AreKeys, DecideForKeys, PartsFirst, string_bytes, IsPairOf, HoldPairs, keys_rise, AreRising-filter, parted, AllByRecursion, drop_more, Option, IfSome, AreColumns, raw_bytes, HasRoot, width_of, merged, PairsHeld, FirstPair, PassesOver, AreHints, DecideMatched, get_or_default, Entries, is_part_of, scalars_matched, pair, value_under, HasPairEntriesLeft, entries_room, AreRising, pairs_above, entries_kept, strip, AreSortedKeys, IsAboveLast, Null, differing_kind, equal_kind, stripped, is_some, values_kept, zero_of, keys_of-members, many_texts, length-values_of, same_kind, Around, IsWriting, beside, Container, Vec, Global, IsOutOfMemoryOrTooLarge, pushed, popped, none_around, empty_of, only_ok, AreEntriesOf, IsStripping, FnReturnsAt, texts, texts_of_trees, texts_of_pairs, ◌*◌, Bool, item_size, Tells, filter, is_text, front_whole, position, bytes_eq, members, pairs_of-members, decoded_members, remove, position_in_some_case, number_reader, SFits, field_of, SameOption, Locates, not_zero_of, Rooms, HasRoom, rooms_after, IsClosing, IsOutOfMemory, change_child, remove_at, suc, head_size, children, children_kept, contents_size, size, sizes, LeadTo, key_view, keys_view, KeyPath, YieldsItemsLeft, location, AreShort, IsCursorOf, IsPassed, IsWithinAll, IsBlockStart, IsTableOf, ◌/◌, All-replicate, list_any-append, list_all-append, HasTextsLeft, decided_by, key_trees, has_by, texts_of, HoldsRoot, HoldsTexts, MatchResult-weaker, null, kind_number, value_tree, value_parts, the_lemmas, null_content, IsKept, leaves, vec_len, vec_capacity, step_keys, steps_within, text_content, number_content, some_injective, reads_number, is_one_of, Bor, AreSeen, IsPlaced, length-set, All-set, bytes_eq-same, no_spots_left, index_position, Decodes-object, take-put_mid, length-drop, flat_map, escaped_byte, nat_lt, list_all, complement_byte, length-digits_of-le, map-append, packed_bytes, OnOk, int_lt, to_z, of_z, w128, ltb-true, text_bytes, take_all, digits_of, members-pairs_of, elements-trees_of, ◌≢◌, ◌==◌, ◌&&◌, cond, get_or, pow-suc, ⊎_elim, cases_Bool, and_cases, eqb-false, number_digits_of, first_digits_of, significant, TextSet, object_pick, object_delete, IsPartitionedInto, slice_get, option_and_then, option_map, Key, without_quotes, reads_back_if_read, child_position, Result, Ok, Err, IfOk, AreBytes, canonical, Error, one_canonical_document, OwnedJsonb, Makes, MakesOption, no_trees, tree, no_pairs, is_null, strip_trees, strip_pairs, header_number, HasContent-kind, Ordering, le_trans, ordering_then, rank, tree_cmp, level_room, part_cmp, Stores, EntryPrefix, HasPartsLeft, level_bound, to_le_bytes, w64, binary, extension, PairEntries, concat, ArePairsOf, without_index, false≢true, without_name, option_or, Holds, HasPairParts, ObjectParts, IsCut-same, named_child, ℤ, IsTrue, MatchOption, FitsSigned, IsWholeNumber, has_name, in_any, element_at, tree_at_steps, any, IsAscii, IsUtf8, codes, to_ascii_lowercase, IsUtf8-from_ascii, IsAscii-nil, IsAscii-cons, IsContent, IsRootOf, IsRootShape, Text, Boolean, String, IsBoolOf, Casts, number_parts, number_view, deepest, sortable_key, AppendsKey, array_document, object_document, are_equal, Decides, bytes_eq-Decides, equal_in_trees, same_from_decides, in_order, count_of, eqb-true, number, short_value, IsOkAnd, each_is_matched, each_pair_is_matched, IsOneAnswer, matches, or_second, IsTailOf, number_of, is_extension_value, Item, ExtensionValue, if_answered, All, MatchResult, is_plain_ascii, All-same, All-push, IsWhole, IsWholePair, IsHeaded, array_root, object_root, array_content, object_content, header, scalar_header, entry_word, IsItemOf, shadow, Utf8, ne_eqb, is_container}
pub use Rattle.jsonb_raw.proofs.AnswerLemmas.{failed, none_made, one_made, all_made, Made, given, answered, drop_first, no_whole, found_made, found_none, no_text}
pub use Rattle.jsonb_raw.proofs.ChildLemmas.{drop_one_more, no_such_element, split_at, first_left, first_marked, first_given, here, nowhere, first_behind, without_none}
pub use Rattle.jsonb_raw.proofs.ColumnLemmas.{key_begun, key_appended, key_refused, key_written, column_appended, first_left_of, none_left_of, KeyLeft}
pub use Rattle.jsonb_raw.proofs.ContainLemmas.{DecideScalars, after_container, after_found, at_missing, passes_both, scalar_matches, container_told, scalar_told, arrays_decided, objects_decided, contains-array, contains-object, contains-extension, plain_item, array_contains_plain, extension_equals_no_plain, object_equals_no_plain}
pub use Rattle.jsonb_raw.proofs.ContainsLaws.{contains_refl, contains_trans, matched_refl}
pub use Rattle.jsonb_raw.proofs.Copies.{copied_tells}
pub use Rattle.jsonb_raw.proofs.CutLemmas.{room_none, rooms_pushed, held_around, no_trees_held, none_left, room_less, in_runs, no_more, makes_kept, opens_next, opens_none, kept_at_most, head_less, opening_begun, all_behind, IsOpening, root_value, short_more, met_next, met_none, place_is, Walked, no_children, values_hold, child_taken, no_position, no_child, step_into, no_place, some_place, no_way, same_decodes, without_part, part_met, part_out}
pub use Rattle.jsonb_raw.proofs.DigitSteps.{digit_packed, DigitsPacked, magnitude_packed, positive_pushed, buffer_steps, count_short, zero_passed, significant_whole, ZerosPassed, count_few, room_left, digit_passed, all_digits, no_digits, DigitsWritten, packed_behind, packed_pushed}
pub use Rattle.jsonb_raw.proofs.ElementsSeen.{key_counted, same_count, counted_new, counted_again, counted_less, counted_none, inserted, CountsLeft-all, CountsLeft-next, CountsLeft, counted_begun, test_first, test_shared, test_unshared, members_few, passed_count, passed_next, follows, EqualLeft-next, EqualLeft, MoreLeft-found, MoreLeft-next, MoreLeft}
pub use Rattle.jsonb_raw.proofs.EntriesLeft.{SomeEntries-first, SomeEntries, SomeEntries-error, SomeEntries-none, overlap_none, others_decide, overlap_split, take_one, take_no, take_zero, one_more, passes_next, passes_none, SomePairEntries-first, SomePairEntries-error, SomePairEntries-none, SomePairEntries, none_yet, tail_none, tail_next, tail_along}
pub use Rattle.jsonb_raw.proofs.EntryEquals.{equals_one, overlap_swapped, same_tell, numbers_tell, AreTexts, same_tree, IsAnswer, IsItemAnswer, none_aside, put_aside, part_holds, part_fails, aside_along, put_one_aside, one_fails, Aside, OneAside}
pub use Rattle.jsonb_raw.proofs.EqualityWalk.{only_start, walk_begun, part_begun, part_done, all_written, keys_of_levels}
pub use Rattle.jsonb_raw.proofs.InsertLemmas.{all_coming, none_after, place_there, place_before, merged_rising, merging_begun, left_of, merging_less, merging_equal_second, merging_equal, merging_greater, merging_ended, Merging, merged_assoc, object_of_pairs}
pub use Rattle.jsonb_raw.proofs.IteratorItems.{SomeElements-first, SomeElements-error, SomeElements-none, SomeElements, elements_begun, elements_pushed, elements_refused, elements_skipped, HeldElements, SomeElements-all}
pub use Rattle.jsonb_raw.proofs.IteratorLemmas.{iter_tells}
pub use Rattle.jsonb_raw.proofs.KeyLawProofs.{composite_keys_order, decoded_key, keys_order, equality_keys_tell_apart, keys_keep_below, keys_keep_equal, keys_tell_apart, decoded_ranks}
pub use Rattle.jsonb_raw.proofs.KeyTables.{key_tells, KeysLeft, KeysLeft-all, KeysLeft-counted, KeysLeft-passed, KeysLeft-none}
pub use Rattle.jsonb_raw.proofs.LeafPlaces.{leaves_are_in_place}
pub use Rattle.jsonb_raw.proofs.LeafWalk.{levels_around, levels_joined, steps_joined, item_leaves, leaf_found, leaf_of_whole, part_entered, level_done, walk_done, parts_leaves, LeavesToward, values_found}
pub use Rattle.jsonb_raw.proofs.LevelKeys.{part_begun_at, first_refused, part_written, IsWithin}
pub use Rattle.jsonb_raw.proofs.LevelLemmas.{all_left, count_of_trees, count_of_pairs, parts_left, pushed_around, popped_around, SomeParts-first, SomeParts-none, SomeParts-error, falls_within, falls_beside, falls_done, SomeParts, weights, stored_container, count_of_keys, headed, no_object, no_pair_error, part_is, array_told, child_told, first_falls, decides_along, equal_passes, next_children, ended, children_ended, parts_in_order, container_rank, container_content, SomeOfBoth, numbers_told, as_many_around}
unfoldable pub use Rattle.jsonb_raw.proofs.LevelLemmas.{weight}
pub use Rattle.jsonb_raw.proofs.NameBlockLemmas.{none_seen, none_seen_yet, name_at, names_told, names_ended, names_open, next_left, name_among, among_names, name_read, not_free, place_kept, place_new, seen_more, text_added, keys_left, told_none, told_alone, told_first, told_head, told_after, leaves_all, leaves_after, leaves_aside, leaves_told, text_stored, Leaves, array_decided, text_among, SomeTexts-first, SomeTexts-none, names_have, none_of_none, one_string, SomeTexts, name_decides, name_leaves, later_is_one, text_passed, text_taken, some_stored, no_text_error, text_none}
pub use Rattle.jsonb_raw.proofs.NumberKeys.{value, value-cons, all_zero}
pub use Rattle.jsonb_raw.proofs.ObjectLemmas.{element_refused_in_list, pair_refused_in_list, array_of, length-elements}
pub use Rattle.jsonb_raw.proofs.PartedRuns.{first_found, first_above, first_passed, name_taken, not_below_itself, run_first, run_more, next_member, no_member_left, key_decided, key_is_utf8, names_begun, parting_begun, run_hold, parting_on, Parting, value_after_less, value_at_equal, no_value, turned, all_above, same_below, decided, pairs_there, cursor_next, cursor_meets, cursor_misses, cursor_ends, cursor_error, last_next, front_hint, hint_stored, start_stored, table_stored, start_at, bytes_behind, block_cursor, left_open, none_decided, no_pairs_there}
pub use Rattle.jsonb_raw.proofs.PositionLemmas.{AreKeys-filter, all_stay, one_goes, names_around, found_behind_both, both_other, both_further, position-cons, named_value, named_at_none, passed, plain_met, quoted_met, of_array, of_object, met_in_object, met_by_index, array_spots, met_by_key, no_field, named_place, some_positions, gone, none_same, some_same, next_child, none_met, some_met, exact_child, position_is, values_around}
pub use Rattle.jsonb_raw.proofs.RootShapes.{text_read, text_reads, other_read, other_reads, text_utf8, plain_shape, scalar_tree, no_texts}
pub use Rattle.jsonb_raw.proofs.RunLemmas.{no_members, names_read, name_boundary, name_split, refused_between, refused_beside, three_runs, entry_taken, no_entry_left, array_of_entries, entries_of_array, no_runs, no_entries, array_made, too_many_made, one_run, two_runs, first_run, object_made, others_hold, pair_taken, no_pair_left, refused_front, refused_back, text_first, holding_begun, no_text_left, pairs_none_added, text_names, run_after, all_values, array_entries_are, object_entries_are, no_parts, holding_none, pairs_by_parts, values_of-members}
pub use Rattle.jsonb_raw.proofs.SetKept.{all_dropped, left_of_array, no_array_entries, members_fit, elements_few, overlap_one, KeptRuns-all, KeptRuns-left, KeptRuns-kept, KeptRuns-dropped, next_of, KeptRuns, KeptLeft-all, KeptLeft-next, KeptLeft-refused, KeptLeft-done, few_before, elements_fit, unshared_one, shared_one}
pub use Rattle.jsonb_raw.proofs.SetLawProofs.{hash_stays, hash_taken, distinct_counts, overlap_is_shared, split_deals, shared_counts, difference_counts}
pub use Rattle.jsonb_raw.proofs.StripWalk.{kept_makes, begun_with, length-stripped, words_of_run, word_taken, no_word_left, null_kind, is_none, ValuesCounted, some_keys_stay, all_keys, values_of-stripped, many_keys, value_there, key_kept, key_dropped, keys_done, KeysOpen, scalars_begun, scalar_kept, container_next, null_next, no_value_left, ScalarsOpen, rooms-pushed, room, rooms}
pub use Rattle.jsonb_raw.proofs.TextChunks.{ascii_text, plain_ascii, all_ends, run_copied, front_escaped, word_packed, plain_word, pair_joined, plain_ends, ends_written, plain_written, chunk_escaped, chunk_copied, quad_joined, byte_written, run_ended}
