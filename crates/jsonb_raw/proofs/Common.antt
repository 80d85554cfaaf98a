-- The names that most proofs cite, passed on from one place. Declares nothing.
pub use Rattle.std.proofs.Common.{◌≡◌, Option, None, Result, Ok, IsOkAnd, IsErrAnd, MatchResult, arith, ◌⊎◌, inl, inr, suc, List, ◌∷◌, length, Some, refl, ap, Any, ◌↔◌, ℕ, zero, ℤ, Bool, true, false, IsTrue, [], map, drop, slice_get, ◌<◌, ◌≤◌, pos, Err, unwrap_or, sym, option_and_then, ◌++◌, subst, ◌∙◌, append_assoc, append-nil, ◌+◌, flat_map, get_or, IsSomeAnd, not, Ordering, Less, Equal, Greater, nat_cmp, ◌&&◌, ◌||◌, ap₂, ◌≢◌, bytes_eq, Bor, length-append, ◌==◌, IfSome, is_eq, replicate, slice_index_or, slice_set, true≢false, ◌-◌, ◌^◌, take, reverse, option_map, length-drop, take_all, Vec, Global, ◌/◌, ◌%◌, cond, w16, ne_eqb, nat_lt, nat_eq, min, is_some, drop_at, position, ◌*◌, take_at, mod-eq_of_lt, if◌then◌else◌, Contains, w32, max, add-one, drop-cons, filter, find, ⊎_elim, pow-suc, mul_comm, mul-lt-mul_of_pos_right, mul-pos, mul-le-mul_right, zero-add, le_trans, le_of_eq, lt_of_lt_of_le, mul_assoc, mul_right_comm, add_comm, lit<, negsuc, ◌*ℤ◌, nat_abs, pow-add, string_bytes, option_copied, IsUtf8, int_lt, codes, w8, insert, length-set, rules, SFits, vec_len, vec_capacity, OnOk, to_z, of_z, ltb-true, IfOk, drop_of_length-le, MatchOption, FitsSigned, IsAscii}
pub use Rattle.jsonb_doc.proofs.Common.{Tree, Form, IsOutOfMemory, array, Trees, no_trees, tree, elements, count, Decodes, IsOutOfMemoryOrTooLarge, IsTooLarge, HasElementsLeft, bytes_eq-Decides, nat_tests, SameOption, TakesSpot, Locates, HasSpotsLeft, AllZip, Width, keys_of, ordering_reverse, match_ordering, slice_cmp, IsBelowFirst, insert_pair, kind_number, number_reader, StandsFor, object, Pairs, no_pairs, pair, keys, members, value_under, extension, is_equal, key_words, Extension, null, boolean, number, text, is_equal_equiv, values_of, length-take-le, length-values_of, values, trees_of, pairs_of, children_of, AreKeys, IsContent, container_entry, Make, AreSortedKeys, Around, Rooms, IsWriting, EndsWithin, map-append, take-take, to_be_bytes, AllByRecursion, is_eq-slice_cmp, sum_by-cons, Fits, false≢true, ⊤, eq_by_cmp, number_cmp, short_value, key_trees, item_size, IsInRange, AreInRange, ValuesAreInRange, HasKeysLeft, length-keys_of, HasPairsLeft, TakesPair, GivesPair, Parts, no_parts, HoldsElements, HoldsFront, iter_rest, bytes_high_first, byte_len, nat_cmp-equal, FitsExtension, canonical, extension_payload, IsShort, HasShortParts, HasShortElements, HasShortValues, FitsNumber, rank, tree_cmp, IsEqual, AreEqual, PairsAreEqual, ordering_then, AreBytes, deepest, equal_from_test, is_equal-true, one-le-pow, ◌or◌when◌, IsWithinLimits, cast_signed, value_tree, value_parts, deepest_of_trees, deepest_of_pairs, length-reverse, HeadedBy, header_number, All, All-head, All-tail, none-some, field_of, cases_lt, eqb-true, nat_cmp-lt, nat_cmp_refl, nat_cmp_scaled, trees_cmp, pairs_cmp, trees_in, mod_below, number_from, uint64, decimal64, date, AreEntries, entry_word, key_bytes, Holds, StartWith, take-append-drop, get_or_append_left, get_or-append-add, All-append, All-cons, w64, to_z-of_z, err_from_is_err_and, w128, binary, HasPairParts, any, IsRootOf, IsRootShape, number_parts, number_view, HasShape, IsNormalShape, GivesElement, are_equal, pairs_are_equal, null_entry, Stores, HasEntriesLeft, GivesEntry, HasPairEntriesLeft, GivesPairEntry, TakesPairEntry, TakesEntry, entries_room, entries_bound, head_size, HasRoom, both, first_of_both, second_of_both, at_common, int_cmp-pos, int_cmp-negative, int_cmp-below, int_cmp-above, then_Equal, nat_cmp-gt, nat_cmp_places, then_assoc, mod_places, AreBelow, IsKeyPosition, IsNoneOf, IsFoundAt, div-div-eq-div-mul, pow-succ', slice_get_past, and_parts, cases_order, cases_Bool, eqb-false, and_cases, false_from_ne_true, same_from_decides, int_ranked, get_or-set_at, ints, drop_more, reverse-reverse, take-set-le, take_more, take_more_set, get_or_default, All-replicate, All-set, count_by-le-length, MatchResult-weaker, between_to_end, take-put_mid, beq, partial_equiv_from_equiv, Equal-is, IsPartialEquivalence, nat_list_cmp_total, byte_at, bytes_low_first, from_le_bytes, to_le_bytes, list_any, remove, option_map_or, option_to_list, option_cmp, int_cmp, is_ne, iter_steps, str_eq_ignore_ascii_case, pow-le-pow_right, All-same, All-push, IsHeaded, header, scalar_header, IsItemOf, shadow, Utf8, IsGetRangeResult, IsDocument}
unfoldable pub use Rattle.jsonb_doc.proofs.Common.{number_of, extension_of, IsStrictlySortedBy}
pub use Rattle.jsonb_doc.proofs.Lemmas.{zip_more, below_next, bytes_cmp_refl, or_false, innermost, same_test, or_second, shuffled, many_texts, empty_of, both_equal, bytes_cmp, same_from_bytes_cmp, scaled_pos, many_keys, zero_of, pushed, popped, none_around, only_ok, not_zero_of, if_answered, AreRising, keys_rise, front_empty, front_pushed, front_refused, AreRising-filter, front_whole, in_any, array_document, object_document, length-words, length-key_words, HasContent-headed, HasContent-kind, array_content, object_content, Decodes-array, Decodes-object, IsCut-same, decoded_fits, IsElementsOf, content_map, reads_number, entry_decodes, equal_in_trees, extension_back, equal_kind, kind_known, other_kind, differing_kind, same_kind, decoded_keys, array_too_large-more, decoded_members, below_inserted, one_canonical_document, content_unique, IsPairsOf, number_content, some_injective, text_content, null_content, no_spots_left, trees_of-elements, keys_of-members, pairs_of-members, members-pairs_of, elements-trees_of, equal_from_tree_cmp, tree_cmp-equal, weight-pos, inner_weighs, taken_weighs, weight_of_all, falls_inward, falls_outward, bytes_eq-same, bytes_eq-true, word_cancel, entries_append, one_entry, too_many, within_parts, not_short, array_root, object_root}
pub use Rattle.jsonb_keypath.proofs.Common.{Key, list_all, index, unquoted_name, key_paths_view, option_or, quoted_name, key_view, keys_view, signed_decimal, without_quotes, IsUtf8-from_ascii}
unfoldable pub use Rattle.jsonb_doc.proofs.Weights.{weight_of}
pub use Rattle.jsonb_doc.specs.declared.container.ArrayParts.{ArrayParts}
pub use Rattle.jsonb_doc.specs.declared.container.ObjectParts.{ObjectParts}
pub use Rattle.jsonb_doc.specs.declared.cursor.Entries.{Entries}
pub use Rattle.jsonb_doc.specs.declared.element_iter.ElementIter.{ElementIter}
pub use Rattle.jsonb_doc.specs.declared.entry_iter.StoredEntry.{StoredEntry}
pub use Rattle.jsonb_doc.specs.declared.error.Error.{Error}
pub use Rattle.jsonb_doc.specs.declared.error.Error.TheVariants.{OutOfMemory, TooLarge}
pub use Rattle.jsonb_doc.specs.declared.item.Item.{Item}
pub use Rattle.jsonb_doc.specs.declared.key_iter.KeyIter.{KeyIter}
pub use Rattle.jsonb_doc.specs.declared.layout.HeaderKind.{HeaderKind}
pub use Rattle.jsonb_doc.specs.declared.pair_iter.PairIter.{PairIter}
pub use Rattle.jsonb_doc.specs.declared.shape.Shape.{Shape}
pub use Rattle.jsonb_doc.specs.declared.short_number.ShortNumber.{ShortNumber}
pub use Rattle.jsonb_doc.specs.declared.spot.Spot.{Spot}
pub use Rattle.jsonb_doc.specs.declared.spot_iter.SpotIter.{SpotIter}
pub use Rattle.jsonb_doc.specs.declared.value.Value.{Value, the_lemmas}
pub use Rattle.jsonb_doc.specs.Number.{Number}
pub use Rattle.jsonb_doc.specs.ObjectKeys.{TakesKey}
unfoldable pub use Rattle.jsonb_doc.specs.Proofs.NumberOrder.{common}
pub use Rattle.jsonb_doc.specs.declared.extension.ExtensionValue.{ExtensionValue}
pub use Rattle.jsonb_doc.specs.declared.item.Item.TheVariants.{Array, Object, String, Boolean}
pub use Rattle.jsonb_doc.specs.declared.layout.EntryKind.TheVariants.{Container, Null}
pub use Rattle.jsonb_doc.specs.declared.rewriting.Writer.{Writer}
pub use Rattle.jsonb_doc.specs.declared.shape.Shape.TheVariants.{Text}
pub use Rattle.jsonb_keypath.proofs.KeyPathReadsBack.{reads_back_if_read}
pub use Rattle.jsonb_keypath.specs.declared.key_path.KeyPath.{KeyPath}
pub use Rattle.jsonb_keypath.specs.declared.key_path.KeyPath.TheVariants.{Index}
pub use Rattle.jsonb_keypath.specs.declared.key_path.KeyPaths.{KeyPaths}
pub use Rattle.jsonb_raw.specs.AnyBytes.Roots.{HasRoot, IsWhole, IsWholePair}
pub use Rattle.jsonb_raw.specs.Arrays.{as_elements, array_length, array_values, array_insert, insert_place}
pub use Rattle.jsonb_raw.specs.Casts.{text_of, IsBoolOf, Casts}
pub use Rattle.jsonb_raw.specs.Children.{named_child, without_index, element_at, without_name}
pub use Rattle.jsonb_raw.specs.CompositeKeys.{column_key, deepest_of_columns, AppendsColumn, HaveKeys, AreColumns}
pub use Rattle.jsonb_raw.specs.Concat.{concat}
pub use Rattle.jsonb_raw.specs.Contains.{is_part_of, each_pair_is_matched, contains, each_is_matched}
pub use Rattle.jsonb_raw.specs.Deletes.{change_at, change_child, remove_at, without, MeetNoPart}
pub use Rattle.jsonb_raw.specs.Documents.{MakesOption, raw_bytes, Makes}
pub use Rattle.jsonb_raw.specs.EqualityKey.{equality_key, equality_keys_of_trees, equality_keys_of_pairs}
pub use Rattle.jsonb_raw.specs.Exists.{is_text, has_text, has_all, has_any}
pub use Rattle.jsonb_raw.specs.Iterators.{YieldsItemsLeft}
pub use Rattle.jsonb_raw.specs.Leaves.{Leaf, leaves_at, leaves, leaves_of_trees, leaves_of_pairs, is_leaf}
pub use Rattle.jsonb_raw.specs.Making.{IsPairOf}
pub use Rattle.jsonb_raw.specs.NoExtension.{HasNoExtension}
pub use Rattle.jsonb_raw.specs.Objects.{has_name, TextSet, is_in, with_pairs, object_keys, object_each, object_insert, object_pick, object_delete}
pub use Rattle.jsonb_raw.specs.Partition.{IsPartitionedInto}
pub use Rattle.jsonb_raw.specs.Places.{index_position, children, child_position, location, asked_key, tree_at_steps}
pub use Rattle.jsonb_raw.specs.Private.Compared.{PassesOver, IsTailOf, Decides, IsShorter, IsOneAnswer, matches}
pub use Rattle.jsonb_raw.specs.Private.Complements.{complement_byte, complement_bytes}
pub use Rattle.jsonb_raw.specs.Private.Cursors.{has_by, IsCursorOf, IsPassed, IsWithinAll, IsBlockStart, IsTableOf, HoldsRoot, HoldsTexts}
pub use Rattle.jsonb_raw.specs.Private.Cuts.{count_kept, IsParent, LeadTo, HoldsValue, StepsInto, children_kept, size, sizes, AreShort, AreLeft, rooms_after, Leads, IsClosing, contents_size}
pub use Rattle.jsonb_raw.specs.Private.Entries.{HoldPairs, TakesFirstPair, IsFirstPair, PairsHeld, PairsOpen, HoldTrees, TakesFirst, AreEntriesOf, AreContainerEntries, ArePairsOf, RunsHold, AreElementsOf, IsTooLongRoot, IsTooLongElement, IsFirst, Holding}
pub use Rattle.jsonb_raw.specs.Private.EntryStarts.{AreLast, IsStartOf, BeginAt}
pub use Rattle.jsonb_raw.specs.Private.EqualityParts.{equality_start, equality_part_start}
pub use Rattle.jsonb_raw.specs.Private.Found.{Finds}
pub use Rattle.jsonb_raw.specs.Private.Hashes.{mixed, value_hash, hash_word, IsPartHash, AreHashed, IsHashOf, HasBits, IsIn}
unfoldable pub use Rattle.jsonb_raw.specs.Private.Hashes.{hash_bit, other_bits}
pub use Rattle.jsonb_raw.specs.Private.HashBlocks.{DecideOverlap}
pub use Rattle.jsonb_raw.specs.Private.Inserts.{IsInPlace, IsPlaceAmong}
pub use Rattle.jsonb_raw.specs.Private.KeyErrors.{IsOutOfMemoryOrTooDeep}
pub use Rattle.jsonb_raw.specs.Private.KeyParts.{start, name_start, part_start, AppendsKey}
pub use Rattle.jsonb_raw.specs.Private.KeyWidth.{width_of}
pub use Rattle.jsonb_raw.specs.Private.LargeTexts.{LargeTells, LeavesTexts}
pub use Rattle.jsonb_raw.specs.Private.LeafSteps.{behind, step_at, step_key, step_keys, steps_within, IsKept}
pub use Rattle.jsonb_raw.specs.Private.Levels.{EntryPrefix, parts, parts_of_trees, parts_of_pairs, IsKeyOf, HasPartsLeft, TakesPart, IsSmaller, IsLevelWithin, level_room, level_bound, HasAllLeft, IsLevelOf}
pub use Rattle.jsonb_raw.specs.Private.Merging.{merged}
pub use Rattle.jsonb_raw.specs.Private.NameBlocks.{texts_of, is_one_of, decided_by, HasTextsLeft, HasTexts, AreStrings, TakesText, contents_of, DecideNames, IsNameAt, first_place, IsPlaced, ArePlaced, AreSeen}
pub use Rattle.jsonb_raw.specs.Private.NamePositions.{position_in_some_case}
pub use Rattle.jsonb_raw.specs.Private.Names.{first_and_others, is_among, IsNotBelow, DecideFrom, DecideForKeys, PartsFirst, all_or_none, names_left}
pub use Rattle.jsonb_raw.specs.Private.Order.{part_cmp}
pub use Rattle.jsonb_raw.specs.Private.PackedBytes.{packed_bytes}
pub use Rattle.jsonb_raw.specs.Private.PairSteps.{pairs_above, parted}
pub use Rattle.jsonb_raw.specs.Private.PlainWords.{IsPlainWord, is_plain_text, is_plain_ascii}
pub use Rattle.jsonb_raw.specs.Private.SetCounts.{key_cmp, counted, one_at, with_key, CountsKeys, keeps, CountsAfter, in_order, ArePassed, kept_one, HaveSeen, Occurrence, is_first}
pub use Rattle.jsonb_raw.specs.Private.KeyTables.{HasKeysOf, TellsMatch, HasTableOf}
pub use Rattle.jsonb_raw.specs.Private.StartHints.{is_container, scalars_matched, IsHint, AreHints, DecideMatched}
pub use Rattle.jsonb_raw.specs.Private.Steps.{child_met}
pub use Rattle.jsonb_raw.specs.Private.Stripping.{entries_kept, leaves_out, stripped, beside, values_kept, WordsHold, stops, HoldValues, Begins, AreWritten, IsAboveLast, IsStripping}
pub use Rattle.jsonb_raw.specs.Private.WrittenBefore.{WritesBefore}
pub use Rattle.jsonb_raw.specs.Scalars.{is_object, is_json_scalar, is_extension_value, is_array, IsWholeNumber, is_null}
pub use Rattle.jsonb_raw.specs.Sets.{count_of, is_shared, overlap, distinct, intersection_of, difference_of, occurrences, select_occurrences}
pub use Rattle.jsonb_raw.specs.SortableKey.{depths, significant, text_bytes, number_bytes, sortable_key, HasKey, IsRest, item_bytes, keys_of_trees, keys_of_pairs, escaped_byte}
unfoldable pub use Rattle.jsonb_raw.specs.SortableKey.{magnitude_bytes}
pub use Rattle.jsonb_raw.specs.Strip.{strip, strip_pairs, strip_trees}
pub use Rattle.jsonb_raw.specs.Texts.{texts, Tells, texts_of_trees, texts_of_pairs}
pub use Rattle.jsonb_raw.specs.declared.compared.Compared.{Compared}
pub use Rattle.jsonb_raw.specs.declared.compared.Compared.TheVariants.{Known, Deferred}
pub use Rattle.jsonb_raw.specs.declared.functions.array.counts.KeyCounts.{KeyCounts}
pub use Rattle.jsonb_raw.specs.declared.functions.array.seen.ElementsPassed.{ElementsPassed}
pub use Rattle.jsonb_raw.specs.declared.functions.array.seen.Seen.{Seen}
pub use Rattle.jsonb_raw.specs.declared.functions.array.sets.SetOperation.{SetOperation}
pub use Rattle.jsonb_raw.specs.declared.functions.array.sets.SetOperation.TheVariants.{First, Shared, Unshared}
pub use Rattle.jsonb_raw.specs.declared.functions.object.pair_parts.PairPlace.{PairPlace}
pub use Rattle.jsonb_raw.specs.declared.functions.operator.stripping.ValuesLeft.{ValuesLeft}
pub use Rattle.jsonb_raw.specs.declared.functions.parts.ContainerEntries.{ContainerEntries}
pub use Rattle.jsonb_raw.specs.declared.functions.parts.FirstPair.{FirstPair}
pub use Rattle.jsonb_doc.specs.declared.cursor.PairEntries.{PairEntries}
pub use Rattle.jsonb_raw.specs.declared.functions.parts.PairRuns.{PairRuns}
pub use Rattle.jsonb_raw.specs.declared.functions.path.cut.Outer.{Outer}
pub use Rattle.jsonb_raw.specs.declared.entry_start.EntryStart.{EntryStart}
pub use Rattle.jsonb_raw.specs.declared.functions.operator.starts.StartSlot.{StartSlot}
pub use Rattle.jsonb_raw.specs.declared.functions.path.exists.KeyCursor.{KeyCursor}
pub use Rattle.jsonb_raw.specs.declared.functions.path.exists.KeyTable.{KeyTable}
pub use Rattle.jsonb_raw.specs.declared.functions.path.leaves.Enclosing.{Enclosing}
pub use Rattle.jsonb_raw.specs.declared.functions.path.leaves.Step.{Step}
pub use Rattle.jsonb_raw.specs.declared.functions.path.parent_entries.ParentEntries.{ParentEntries}
pub use Rattle.jsonb_raw.specs.declared.level.ChildCursor.{ChildCursor}
pub use Rattle.jsonb_raw.specs.declared.owned.OwnedJsonb.{OwnedJsonb}
pub use Rattle.jsonb_raw.specs.declared.raw.RawJsonb.{RawJsonb}
pub use Rattle.std.proofs.Math.Nat.{eq-or-lt_of_le}
pub use Rattle.std.proofs.Math.Seq.{take-append-add, get_or-take, drop-drop}
pub use Rattle.std.proofs.lemmas.Nat.{and_or_self, and_le_r}
pub use Rattle.std.proofs.lemmas.Nat.Bits.{bit_at_and, bit_at_or, same_from_bits}
pub use Rattle.std.proofs.lemmas.Bool.{cases_eq}
pub use Rattle.std.proofs.lemmas.Fmt.{decimal_digit}
pub use Rattle.std.proofs.lemmas.Int.Digits.{digits_of_step, length-digits_of_step, length-digits_of-le, number_lt, number_digits_of, all_below_base_digits_of, first_digits_of}
pub use Rattle.std.proofs.lemmas.List.{get_or-map, get_or-set_other, length-replicate}
pub use Rattle.std.proofs.lemmas.List.Concat.{flat_map-append}
pub use Rattle.std.proofs.lemmas.List.Folds.{list_all-append, list_any-append}
pub use Rattle.std.proofs.lemmas.Str.Ascii.{IsAscii-nil, IsAscii-cons}
pub use Rattle.std.specs.Char.{to_ascii_lowercase}
pub use Rattle.std.specs.Fn.{FnReturnsAt}
pub use Rattle.std.specs.Int.Digits.{digits_of, number_from_digits, number_from_digits_after, AllBelowBase}
pub use Rattle.std.specs.Iterator.Adapters.{copied_steps, copied_source}
pub use Rattle.std.specs.Map.Iter.{deref}
