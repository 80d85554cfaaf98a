-- The lemmas that an attribute names for the goals of a function: several, or one whose name it cannot spell.
use Rattle.jsonb_raw.proofs.Lemmas.{after_container, at_missing, scalar_matches, scalar_told, passes_next, passes_none, AreRising-filter, CountsLeft-all, IsCut-same, KeptRuns-all, KeptRuns-left, MatchResult-weaker, SomeEntries-error, SomeEntries-first, SomeEntries-none, SomePairEntries-error, SomePairEntries-first, SomePairEntries-none, all_above, all_keys, all_values, and_le_r, append-nil, append_assoc, array_of_entries, count_of_keys, count_of_pairs, count_of_trees, decoded_fits, drop_of_length-le, elements-trees_of, elements_few, elements_fit, entry_taken, err_from_is_err_and, failed, found_made, found_none, keys_keep_below, keys_keep_equal, keys_of-members, keys_order, keys_rise, keys_tell_apart, length-append, length-digits_of-le, length-elements, length-stripped, length-values_of, many_keys, many_texts, map-append, members-pairs_of, merged_assoc, named_at_none, named_value, no_array_entries, no_children, no_entries, no_entry_left, no_position, no_such_element, no_trees_held, no_value, none_left, number_content, other_kind, pairs_there, reads_number, run_after, same_below, same_kind, some_injective, split_at, text_names, to_z-of_z, true≢false, turned, two_runs, value_at_equal, values_hold, values_of-members, values_of-stripped, without_none, zero_of}
use Rattle.jsonb_raw.proofs.PartedRuns.{last_all, last_next}

pub ruleset overlap_in_count_entries = (CountsLeft-all, SomeEntries-error, SomeEntries-first, failed, SomeEntries-none)

pub ruleset starts_store_all = (last_all, last_next, passes_next, passes_none)

pub ruleset starts_block_by = (SomeEntries-error, SomeEntries-first, SomeEntries-none, after_container, at_missing, scalar_matches, scalar_told, passes_none)

pub ruleset sets_kept_elements = (KeptRuns-all, KeptRuns-left, failed)

pub ruleset joined_count_entries = (drop_of_length-le)

pub ruleset joined_empty_array = (append-nil)

pub ruleset object_pairs_by_set = (AreRising-filter, keys_rise, append-nil)

pub ruleset step_advance_to_key = (keys_rise, SomePairEntries-error, SomePairEntries-first, value_at_equal, all_above, same_below, no_value, turned, SomePairEntries-none)

pub ruleset stripping_all_values = (values_of-members)

pub ruleset stripping_put_keys = (keys_of-members, keys_rise, all_keys, many_texts, values_of-stripped, length-values_of, many_keys, zero_of)

pub ruleset pair_runs_push = (text_names, run_after, all_values)

pub ruleset laws_concat_is_associative = (elements-trees_of, append_assoc, members-pairs_of, merged_assoc, keys_of-members, keys_rise)

pub ruleset child_cursor_len = (count_of_trees, count_of_keys, count_of_pairs)

pub ruleset sets_kept_of_document = (array_of_entries, elements_few, elements_fit, no_array_entries, decoded_fits)

pub ruleset cut_container_of_others = (two_runs, no_trees_held, none_left, zero_of)

pub ruleset integer_back = (to_z-of_z)

pub ruleset delete_split_at_step = (same_kind, other_kind)

pub ruleset delete_split_container = (no_children, no_entries, no_position, values_hold, err_from_is_err_and)

pub ruleset leaves_entry_entered = (true≢false)

pub ruleset leaves_push_value = (MatchResult-weaker, number_content, some_injective, reads_number)

pub ruleset key_bytes_pack_digits = (length-digits_of-le, map-append)

pub ruleset rawjsonb_array_length = (length-elements)

pub ruleset rawjsonb_delete_by_index = (array_of_entries, without_none, to_z-of_z)

pub ruleset rawjsonb_get_by_index = (array_of_entries, no_such_element, found_made, found_none, drop_of_length-le)

pub ruleset rawjsonb_get_by_name = (found_made, found_none, IsCut-same)

pub ruleset laws_sortable_keys = (keys_keep_below, keys_keep_equal, keys_order, keys_tell_apart)

pub ruleset child_element_document = (no_entry_left, no_such_element, entry_taken, split_at)

pub ruleset child_value_ignoring_case = (pairs_there, named_at_none, named_value)

pub ruleset equality_key_push_count = (append_assoc)

pub ruleset hashes_entries_hash = (SomeEntries-first)

pub ruleset stripping_count_kept = (values_of-members, length-stripped)

pub ruleset runs_container_entries = (many_keys, length-append)

pub ruleset hashes_hash_word = (and_le_r)
