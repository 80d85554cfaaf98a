-- The names that most proofs cite, passed on from one place. Declares nothing.
pub use Rattle.std.proofs.Common.{◌≡◌, ℕ, List, ◌++◌, ap, ◌∙◌, append_assoc, Result, OnOk, OnErr, arith, ◌<◌, ◌^◌, [], ◌∷◌, length, suc, ◌*◌, ◌==◌, ◌||◌, Bool, true, false, map, Ordering, Equal, Less, MatchResult, IsOkAnd, IfOk, mul-pos, refl, reverse, nat_cmp, sym, inl, inr, BTreeMap, Option, Some, None, Ok, Err, Global, String, string_bytes, is_some, IsUtf8, IsErrAnd, subst, cond, filter, ◌≢◌, zero, ◌+◌, ◌≤◌, take, Greater, ℤ, pos, negsuc, FitsSigned, ◌⊎◌, ◌%◌, ◌/◌, ◌&&◌, ◌↔◌, ◌-◌, slice_range, Vec, flat_map, is_none, IsTrue, slice_get, option_copied, IfErr, IsSome, drop, string_cmp, min, max, rules, if◌then◌else◌, length-drop, get_or, nat_eq, ◌*ℤ◌, int_cmp, not, mul_assoc, int_lt, mul_comm, pow-suc, mul-le-mul_left, slice_index_or, codes, nat_lt, IsSomeAnd, ap₂, MatchOption, sum, IfSome, slice_index, div-add-mod', neg_ℤ, unsigned_abs, IsOk, IsErrOf, replicate, vec_len, sub-one, is_ok, drop_of_length-le, take-add, Bor}
pub use Rattle.byteorder.specs.Endian.{big_bytes, big_number, twos_complement}
pub use Rattle.byteorder.specs.Numbers.{big_from-bytes, length-bytes_high_first, big_number-reads_back, big_from-lt, big_from-cons}
pub use Rattle.jsonb_doc.specs.Answer.{IsOutOfMemory, ◌or◌when◌, SameOption, IsDecodingError}
pub use Rattle.jsonb_doc.specs.AnyBytes.Items.{IsItemOf, IsRootOf, item_size}
pub use Rattle.jsonb_doc.specs.AnyBytes.Iterators.{HasAllValues, ReadsPair}
pub use Rattle.jsonb_doc.specs.AnyBytes.Parts.{AreNone, HasItsWords, IsHeaded}
pub use Rattle.jsonb_doc.specs.AnyBytes.Roots.{IsRootShape, HasReadableRoot, HasShape, IsNormalShape}
pub use Rattle.jsonb_doc.specs.AnyBytes.Spots.{PassesSpot, ReadsSpot, spots_room}
pub use Rattle.jsonb_doc.specs.AnyBytes.Unsupported.{number_or_unsupported, WouldDecode}
unfoldable pub use Rattle.jsonb_doc.specs.AnyBytes.Unsupported.{is_unsupported}
pub use Rattle.jsonb_doc.specs.ArrayBuilder.{Parts, entry_count, HoldsElements, IsTooLargeElement, no_parts}
pub use Rattle.jsonb_doc.specs.Bytes.{AreBytes}
pub use Rattle.jsonb_doc.specs.ChildPositions.{TakesChild}
pub use Rattle.jsonb_doc.specs.Depth.{deepest, deepest_of_trees, deepest_of_pairs}
pub use Rattle.jsonb_doc.specs.DocumentBuilder.{IsFailureAt, Takes}
pub use Rattle.jsonb_doc.specs.Elements.{TakesElement, GivesElement}
pub use Rattle.jsonb_doc.specs.Encoding.{EntryParts, item_content, entry_of, IsTooLong, IsTooLargeItem}
pub use Rattle.jsonb_doc.specs.Equal.{is_equal, are_equal, pairs_are_equal}
pub use Rattle.jsonb_doc.specs.EventList.{BeginWithText, AreEvents, with_key_again, next_of, AreEventsOf, Reads, HasDuplicateKey, FailsWith, scalar_of}
pub use Rattle.jsonb_doc.specs.Events.{Level, root, object_of, State, takes_value, filled, with_inner, with_value, with_key, container, closed, array_of, whole, so_far, Event, array_begins, object_begins, key_is, value_is, ends, no_events, within}
pub use Rattle.jsonb_doc.specs.Extension.{Extension, FitsExtension, binary, date, timestamp, timestamp_tz, interval}
pub use Rattle.jsonb_doc.specs.Format.{IsContent, AreEntries, entry_word, header, array_header, Decodes, IsBelowFirst, AreKeys, scalar_header, AreValues, IsDocument, key_bytes, object_header, key_words, AreMembers, HeadedBy, BeginWith, HasFirstEntry, IsContainer}
pub use Rattle.jsonb_doc.specs.Item.{StandsFor, IsNormal}
pub use Rattle.jsonb_doc.specs.Kinds.{kind_number}
pub use Rattle.jsonb_doc.specs.Limits.{HasShortElements, content_size, IsTooLarge, IsWithinLimits, HasShortParts, HasShortValues, IsInRange, AreInRange, ValuesAreInRange, Fits, AreShortKeys, elements_size, values_size, IsShort, widest_number}
pub use Rattle.jsonb_doc.specs.Number.{Variant, int64, uint64, decimal64, decimal128, number_from, zero_number, FitsParts, FitsNumber, number_cmp}
pub use Rattle.jsonb_doc.specs.NumberText.{low_digits}
pub use Rattle.jsonb_doc.specs.ObjectBuilder.{has_key, insert_pair, HoldsPairs, IsTooLargePair}
pub use Rattle.jsonb_doc.specs.ObjectPairs.{TakesPair, GivesPair}
pub use Rattle.jsonb_doc.specs.Order.{rank, tree_cmp, trees_cmp, pairs_cmp}
pub use Rattle.jsonb_doc.specs.Payload.{NumberReader, Form, number_reader, any, canonical, is_width, signed, fixed_bytes, unsigned_width, signed_size, signed_bytes, number_payload_of, number_payload, extension_payload, fixed}
unfoldable pub use Rattle.jsonb_doc.specs.Payload.{number_of}
pub use Rattle.jsonb_doc.specs.Private.Builders.{HoldsFront}
pub use Rattle.jsonb_doc.specs.Private.Canonical.{kind_of, content, contents, words, value_words, value_contents, document, scalar_document}
pub use Rattle.jsonb_doc.specs.Private.Checking.{IsValidationError, ReducesTo, HasContent, HasEntries, HasParts, HasLarge, IsNoLonger, HasDocument, HasKeys, IsAbove, IsNextKey, Validates}
pub use Rattle.jsonb_doc.specs.Private.Closing.{Closes, entry_words, total_len, member_keys, member_entries, array_head, object_head, IsClosed, HasShortHead}
pub use Rattle.jsonb_doc.specs.Private.Collecting.{insert_all, appended, EndsAs, Ends, TakesTree, LeadsTo, IsMemberOf, HoldsFrame, HoldsState, WaitsFor, AreAround, Keeps, Pushes, IsDue, IsRepeated, IsPushRefused, Opens, Happen, Refuses}
pub use Rattle.jsonb_doc.specs.Private.Comparing.{values_same, entries_same, told, told_parts}
pub use Rattle.jsonb_doc.specs.Private.Containers.{Holds, IsCut, HasPairParts, IsLoneEntry, StartWith}
pub use Rattle.jsonb_doc.specs.Private.Copying.{insert_pairs, with_part, filled_tree, left_parts, filled_parts, part_tree}
pub use Rattle.jsonb_doc.specs.Private.Cursor.{HoldTrees, TakesFirst, RunsHold, words_of_runs, contents_of_runs}
pub use Rattle.jsonb_doc.specs.Private.Depths.{parts_of, LiesBelow, AreDeep}
pub use Rattle.jsonb_doc.specs.Private.Earlier.{earlier}
pub use Rattle.jsonb_doc.specs.Private.EntryKinds.{container_entry, null_entry}
pub use Rattle.jsonb_doc.specs.Private.EqualBytes.{IsWordOf, AreEnds}
pub use Rattle.jsonb_doc.specs.Private.Errors.{IsOutOfMemoryOrTooLarge}
pub use Rattle.jsonb_doc.specs.Private.EventParts.{IsPart, AreElements, HoldParts, keys_first, IsPlain, IsPlainItem, IsWalking}
pub use Rattle.jsonb_doc.specs.Private.Fields.{IsValueEntry}
pub use Rattle.jsonb_doc.specs.Private.Filling.{open_room, IsWhole, FillsTo, MakesWhole}
pub use Rattle.jsonb_doc.specs.Private.Headers.{header_number}
pub use Rattle.jsonb_doc.specs.Private.Lengths.{lengths_of, StandBefore, HoldKeys, IsNoneOf, FoundKey, KeysLeft, FindsKey, AreBelow, IsKeyPosition, IsFoundAt, IsBlockOf}
pub use Rattle.jsonb_doc.specs.Private.ObjectBytes.{FitsEntry, words_of_entries, contents_of_entries, object_bytes, entry_parts, member, FitsMember}
pub use Rattle.jsonb_doc.specs.Private.Parts.{tree_parts, parts, values_parts, entries_parts, waiting_parts, remaining}
unfoldable pub use Rattle.jsonb_doc.specs.Private.Parts.{to_release}
pub use Rattle.jsonb_doc.specs.Private.Payloads.{IsNoNumber}
unfoldable pub use Rattle.jsonb_doc.specs.Private.Payloads.{extension_of}
pub use Rattle.jsonb_doc.specs.Private.ShapeOf.{IsShapeOf}
pub use Rattle.jsonb_doc.specs.Private.Short.{short_value, short_parts}
pub use Rattle.jsonb_doc.specs.Private.Stored.{key_trees, Stores, HasEntriesLeft, GivesEntry, HasPairEntriesLeft, GivesPairEntry, TakesPairEntry, TakesEntry, entries_room, entries_bound}
pub use Rattle.jsonb_doc.specs.Private.Unique.{has_lower_key, unique, as_pair, is_below_first}
pub use Rattle.jsonb_doc.specs.Private.Values.{trees_seen, members_seen, KeepsNormal, SeesItem}
pub use Rattle.jsonb_doc.specs.Private.Writer.{AreSortedKeys, Make, IsOpen, Rooms, EndsWithin, ExceedsLimits, Around, IsWriting, head_size, HasRoom}
pub use Rattle.jsonb_doc.specs.Private.Writing.{StaysInFront, FitsItem, item_kind, scalar_bytes}
pub use Rattle.jsonb_doc.specs.Proofs.EqualTrees.{IsEqual, AreEqual, PairsAreEqual}
pub use Rattle.jsonb_doc.specs.Proofs.Equality.{equal_from_test, is_equal-true, is_equal_equiv, both, first_of_both, second_of_both}
pub use Rattle.jsonb_doc.specs.Proofs.NumberOrder.{number_cmp_total, int_cmp_scaled, at_common, int_cmp-pos, int_cmp-negative, int_cmp-below, int_cmp-above}
pub use Rattle.jsonb_doc.specs.Proofs.Orderings.{nat_cmp_refl, nat_cmp_scaled, nat_cmp-lt, nat_cmp-equal, then_Equal, nat_cmp-gt, nat_cmp_places, then_assoc, mod_places}
pub use Rattle.jsonb_doc.specs.Representation.DocumentBuilder.{IsPieceOf, AreMembersOf, HoldsLevel, HoldsOuter, IsEntryOf, AreSortedTexts}
pub use Rattle.jsonb_doc.specs.Representation.Iterators.{HasElementsLeft, HasPairsLeft, HasKeysLeft}
pub use Rattle.jsonb_doc.specs.Representation.Pieces.{bytes_at, stacked, all_heads, joined, Heads, heads_at, piece_heads}
unfoldable pub use Rattle.jsonb_doc.specs.Representation.Pieces.{heads_after}
pub use Rattle.jsonb_doc.specs.Representation.Positions.{Locates, HasSpotsLeft, AreAt, HasChildrenLeft, spot_content}
pub use Rattle.jsonb_doc.specs.Rounding.{with_sign, nearest}
pub use Rattle.jsonb_doc.specs.Spots.{TakesSpot, GivesSpot}
pub use Rattle.jsonb_doc.specs.Tree.{Tree, array, trees_of, text, pairs_of, null, boolean, number, extension, object, Trees, no_trees, tree, Pairs, no_pairs, pair, elements, count, keys, values, members, trees_in, value_under, field_of, pairs_in, children_of}
pub use Rattle.jsonb_doc.specs.Value.{tree_seen, value_parts, value_tree}
pub use Rattle.jsonb_doc.specs.View.{number_view, extension_view, number_parts}
pub use Rattle.jsonb_doc.specs.contracts.layout.EntryKind.{the_type}
pub use Rattle.jsonb_doc.specs.declared.builder_entry.BuilderEntry.{BuilderEntry}
pub use Rattle.jsonb_doc.specs.declared.child_positions.ChildPositions.{ChildPositions}
pub use Rattle.jsonb_doc.specs.declared.child_positions.EntryPositions.{EntryPositions}
pub use Rattle.jsonb_doc.specs.declared.container.ArrayParts.{ArrayParts}
pub use Rattle.jsonb_doc.specs.declared.container.Container.TheVariants.{Object, Array, Scalar}
pub use Rattle.jsonb_doc.specs.declared.container.ObjectParts.{ObjectParts}
pub use Rattle.jsonb_doc.specs.declared.cursor.Entries.{Entries}
pub use Rattle.jsonb_doc.specs.declared.document_builder.DocumentBuilder.{DocumentBuilder}
pub use Rattle.jsonb_doc.specs.declared.document_builder.closing.Closed.{Closed}
pub use Rattle.jsonb_doc.specs.declared.document_builder.frame.Frame.TheVariants.{Root}
pub use Rattle.jsonb_doc.specs.declared.element_iter.ElementIter.{ElementIter}
pub use Rattle.jsonb_doc.specs.declared.entry_iter.StoredEntry.{StoredEntry}
pub use Rattle.jsonb_doc.specs.declared.error.Error.{Error}
pub use Rattle.jsonb_doc.specs.declared.error.Error.TheVariants.{OutOfMemory, ObjectDuplicateKey, UnsupportedNumber, TooLarge, InvalidJsonb}
pub use Rattle.jsonb_doc.specs.declared.event_error.EventError.{EventError}
pub use Rattle.jsonb_doc.specs.declared.event_error.EventError.TheVariants.{OutOfOrder, Failed}
pub use Rattle.jsonb_doc.specs.declared.event_list.collecting.Collector.{Collector}
pub use Rattle.jsonb_doc.specs.declared.event_list.collecting.Frame.{Frame}
pub use Rattle.jsonb_doc.specs.declared.event_list.collecting.Member.{Member}
pub use Rattle.jsonb_doc.specs.declared.event_list.collecting.Part.{Part}
pub use Rattle.jsonb_doc.specs.declared.event_list.collecting.Part.TheVariants.{Nested, Plain, Text}
pub use Rattle.jsonb_doc.specs.declared.event_list.collecting.Run.{Run}
pub use Rattle.jsonb_doc.specs.declared.event_list.writing.Left.{Left}
pub use Rattle.jsonb_doc.specs.declared.event_list.writing.Outer.{Outer}
pub use Rattle.jsonb_doc.specs.declared.item.Item.{Item}
pub use Rattle.jsonb_doc.specs.declared.item.Item.TheVariants.{Null, Boolean}
pub use Rattle.jsonb_doc.specs.declared.key_iter.KeyIter.{KeyIter}
pub use Rattle.jsonb_doc.specs.declared.layout.Entry.{Entry}
pub use Rattle.jsonb_doc.specs.declared.layout.EntryKind.{EntryKind}
pub use Rattle.jsonb_doc.specs.declared.layout.EntryKind.TheVariants.{Container, Unknown}
pub use Rattle.jsonb_doc.specs.declared.layout.HeaderKind.{HeaderKind}
pub use Rattle.jsonb_doc.specs.declared.number.Number.{Number}
pub use Rattle.jsonb_doc.specs.declared.pair_iter.PairIter.{PairIter}
pub use Rattle.jsonb_doc.specs.declared.piece_entry.PieceEntry.{PieceEntry}
pub use Rattle.jsonb_doc.specs.declared.pieces.Piece.{Piece}
pub use Rattle.jsonb_doc.specs.declared.rewriting.OpenContainer.{OpenContainer}
pub use Rattle.jsonb_doc.specs.declared.shape.Shape.{Shape}
pub use Rattle.jsonb_doc.specs.declared.short_number.ShortNumber.{ShortNumber}
pub use Rattle.jsonb_doc.specs.declared.spot.Spot.{Spot}
pub use Rattle.jsonb_doc.specs.declared.spot_iter.SpotIter.{SpotIter}
pub use Rattle.jsonb_doc.specs.declared.text_event.TextEvent.{TextEvent}
pub use Rattle.jsonb_doc.specs.declared.value.Value.{Value, the_lemmas}
pub use Rattle.jsonb_doc.specs.declared.value.copy.Filled.{Filled}
pub use Rattle.jsonb_doc.specs.declared.value.copy.Open.{Open}
pub use Rattle.jsonb_doc.specs.declared.value.decode.Filled.TheVariants.{Whole}
pub use Rattle.jsonb_doc.specs.declared.value.release.Remaining.{Remaining}
pub use Rattle.jsonb_doc.specs.declared.value_iter.ValueIter.{ValueIter}
pub use Rattle.std.proofs.Math.Facts.{sfits_to_z, Fits-bits}
pub use Rattle.std.proofs.Math.Nat.{add-zero, zero-add, mul-mod_left, add-mul-div_right, div-eq_of_lt, eq_of_mul-eq-mul_right, pow-le-pow_right, mul-le-mul_right, suc-mul, div-div-eq-div-mul, pow-succ'}
pub use Rattle.std.proofs.Output.{has_written_append}
pub use Rattle.std.proofs.lemmas.Bool.{cases_lt, lt-ltb, le-ltb, true≢false, eqb-true, eq-eqb, ltb-true, ltb-false, false≢true, and_parts, cases_order, cases_Bool, eqb-false, and_cases, false_from_ne_true}
pub use Rattle.std.proofs.lemmas.Bool.Decides.{nat_tests, same_from_decides}
pub use Rattle.std.proofs.lemmas.Cmp.{nat_list_cmp_total, tied_itself, alike_right, nat_cmp_total, int_ranked}
pub use Rattle.std.proofs.lemmas.Grind.{common_steps, pow_more, get_or-set_at}
pub use Rattle.std.proofs.lemmas.Int.{to_z-of_z, of_z-to_z, ints}
pub use Rattle.std.proofs.lemmas.List.{append-nil, length-append, reverse-append, length-take-le, drop_at, length-map, take_at, map-append, take_all, drop_all, take-take, take_rest, take-append-drop, take-append-le, drop-drop, get_or_append_left, get_or-append-add, get_or_past, get_or_push, drop-take, nil_from_length, length-take, length-reverse, same_from_push, drop_more, reverse-reverse, take-set-le, take_more, take_more_set, get_or_default}
pub use Rattle.std.proofs.lemmas.List.Edits.{length-between}
pub use Rattle.std.proofs.lemmas.List.Elements.{All-nil, All-cons, All-head, All-tail, All-rest, All-same, All-append, All-replicate, All-set, All-push}
pub use Rattle.std.proofs.lemmas.List.Sorted.{ranks_by, answers_always}
pub use Rattle.std.proofs.lemmas.List.Sums.{sum_by-cons, count_by-le-length}
pub use Rattle.std.proofs.lemmas.Map.Entries.{length-keys_of, length-values_of}
pub use Rattle.std.proofs.lemmas.Map.Lookups.{exact_bytes}
pub use Rattle.std.proofs.lemmas.Map.Text.{is_eq-slice_cmp}
pub use Rattle.std.proofs.lemmas.Nat.{be_bytes_4, be_bytes_8, pow-add, from_be_bytes-to_be_bytes_4, mul-le, div-mul-add, mod_below}
pub use Rattle.std.proofs.lemmas.Option.{none-some, slice_get_past}
pub use Rattle.std.proofs.lemmas.Result.{err_from_is_err_and, MatchResult-weaker}
pub use Rattle.std.proofs.lemmas.Slice.{between_to_end, between_is, overwrites, first_rest, take-put_mid}
pub use Rattle.std.proofs.lemmas.Slice.Eq.{bytes_eq-Decides}
pub use Rattle.std.proofs.lemmas.Slice.Zip.{AllZip-long}
pub use Rattle.std.proofs.lemmas.Str.{IsCharBoundary-from_take}
pub use Rattle.std.specs.BTreeMap.{is_at, insert_entry}
pub use Rattle.std.specs.Bool.{Decides, then_some, beq}
pub use Rattle.std.specs.Cmp.{ranks, nat_cmp_is, partial_equiv_from_equiv, Equal-is, IsPartialEquivalence}
pub use Rattle.std.specs.Cmp.Lexicographic.{slice_cmp}
pub use Rattle.std.specs.Fmt.{decimal, HasWritten, IsPlainFormatter}
pub use Rattle.std.specs.Int.{w64, from_be_bytes, w128, cast_unsigned, Width, w32, to_be_bytes, byte_len, cast_signed, bytes_high_first, byte_at, bytes_low_first, from_le_bytes, to_le_bytes}
pub use Rattle.std.specs.List.{AllZip, All, AllByRecursion, list_any, remove}
pub use Rattle.std.specs.List.Sorted.{IsSortedBy, IsStableBy, ties}
unfoldable pub use Rattle.std.specs.List.Sorted.{IsStrictlySortedBy}
pub use Rattle.std.specs.Map.{keys_of, lookup, values_of}
pub use Rattle.std.specs.Option.{option_and_then, option_eq, option_map_or, option_to_list, option_cmp}
pub use Rattle.std.specs.Ordering.{ordering_then, MatchOrdering, ordering_reverse, ord_max, eq_by_cmp, is_eq, int_eq, match_ordering, is_lt, is_ne}
pub use Rattle.std.specs.Prelude.{⊤, unwrap_or}
pub use Rattle.std.specs.Simd.{first_chunks}
pub use Rattle.std.specs.Slice.{IsGetRangeResult}
pub use Rattle.std.specs.Slice.Iter.{iter_rest, iter_steps}
pub use Rattle.std.specs.Str.{IsCharBoundary, bytes_eq, str_eq_ignore_ascii_case}
pub use Rattle.std.specs.declared.alloc.AllocError.{AllocError}
pub use borrow.Rule.Slice.PartMut.{mid_of}
pub use denote.Enum.Declared.{tag_of}
pub use denote.Shadow.{shadow}
pub use denote.Text.{Utf8}
pub use native.Mathlib.Nat.{one-le-pow}
