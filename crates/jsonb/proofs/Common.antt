-- The names that most proofs cite, passed on from one place. Declares nothing.
pub use Rattle.std.proofs.Common.{◌≡◌, ℕ, ◌<◌, suc, zero, length, List, [], ◌∷◌, ◌++◌, map, flat_map, Bool, true, false, Option, Some, None, is_some, option_map, Ok, Err, refl, ap, ◌∙◌, arith, find, slice_index_or, Contains, Box, Global, ◌⊎◌, ◌+◌, ◌≤◌, drop, get_or, append_assoc, append-nil, OnOk, IfErr, IsOkAnd, inl, sym, subst, reverse, Vec, take, slice_get, MatchOption, ◌^◌, min, inr, cond, length-drop, add-one, nat_lt, codes, ℤ, if◌then◌else◌, MatchResult, add-zero, length-append, ◌==◌, ◌||◌, MatchBool, Result, IsSomeAnd, IfSome, ap₂, ◌&&◌, nat_eq, pos, negsuc, IfOk, Bor, fold, nat_le, not, ◌/◌, ◌-◌, ◌↔◌, ◌≤ℤ◌, filter_map, int_le, slice_range, ◌<ℤ◌, IsErrAnd, rules, IsTrue, set, option_to_list, ◌%◌, slice_index, ◌*◌, SFits, vec_len, max}
pub use Rattle.jsonb_doc.proofs.Common.{AllZip, IsOutOfMemory, Tree, ⊤, Locates, HasSpotsLeft, spots_room, option_and_then, number_from, number_view, nat_tests, iter_rest, map-append, ◌or◌when◌, SameOption, Decodes, IsTooLarge, Form, take-append-drop, is_eq, Decides, option_eq, tied_itself, int64, uint64, number_cmp, number_cmp_total, null, AllByRecursion, with_sign, common_steps, decimal, Trees, Pairs, array, object, no_trees, no_pairs, pair, elements, values, children_of, decimal64, trees_of, pairs_of, ordering_reverse, field_of, drop_of_length-le, GivesSpot, kind_number, any, number_reader, spot_content, reverse-append, Parts, no_parts, HoldsElements, IsOutOfMemoryOrTooLarge, Variant, is_equal, is_equal-true, IsEqual, AreEqual, PairsAreEqual, take_all, then_some, eqb-true, length-reverse, length-take-le, AreBytes, canonical, to_z-of_z, nil_from_length, has_written_append, HasWritten, IsPlainFormatter, HoldsFront, err_from_is_err_and, is_eq-slice_cmp}
pub use Rattle.jsonb_keypath.proofs.Common.{option_or, flat_map-append, Decides-ltb, Parsed, Rule, ◌>>=◌, ◌>>◌, ◌</>◌, parsed_map, bytes, literal, list_of, give, past, is_space, pointwise, only_if, ReadsSome, AreRows, is_ascii_digit, same_Some, is_within, signed_decimal, is_plain_name, quoted_text, name_text, prefix_len, cow_str_bytes, all_consuming, flat_map_more, map_push, has_written_of_eq, list_all}
unfoldable pub use Rattle.jsonb_keypath.proofs.Common.{up_to, repeat, integer, ws, digits, is_utf8, chars, encode, natural, natural_below, sign, integer_within, four_hex_digits, code_unit, unicode_escape, escape, unit, units, name, quoted, text}
pub use Rattle.jsonb_raw.proofs.Common.{weight-pos, inner_weighs, taken_weighs, weight_of_all, falls_inward, falls_outward, Number, Makes, MakesOption, take_more, nat_list_cmp_total, array_values, ints, no_spots_left, content_unique, take_more_set, one_canonical_document, front_whole, raw_bytes}
unfoldable pub use Rattle.jsonb_raw.proofs.Common.{weight_of}
pub use Prim.Native.String.{String}
pub use Rattle.hex.specs.Hex.{encode_lower, lower_digits}
unfoldable pub use Rattle.hex.specs.Hex.{encode_with}
pub use Rattle.jsonb.specs.Compare.{Truth, compare, joined_truth, pair_truth, first_decisive, value_order, truth_of_order, is_container}
pub use Rattle.jsonb.specs.FirstItems.{IsFirstItem}
pub use Rattle.jsonb.specs.FoundItems.{IsItemOf}
pub use Rattle.jsonb.specs.ItemSteps.{list_or, values_of, picked, is_meant, picked_by, field_step}
pub use Rattle.jsonb.specs.LevelTable.{at_level}
pub use Rattle.jsonb.specs.LimitedAnswers.{UnlessExceeded}
pub use Rattle.jsonb.specs.Meaning.{step_meaning, steps_meaning, truth, filtered, operand_values, start, meaning, predicate, as_filter, expression_meaning, Means, list_truth, truth_item}
pub use Rattle.jsonb.specs.MostItems.{capped, steps_items, after_steps, is_single, most_items}
pub use Rattle.jsonb.specs.PathArithmetic.{two_numbers, all_numbers, signed_number, each_signed, operation}
pub use Rattle.jsonb.specs.PathDocuments.{is_document, HasNoDocument}
pub use Rattle.jsonb.specs.PathEquality.{SameLiteral, SameStepBut, SameStepsBut, SameExpressionBut, SamePath, literal_order}
pub use Rattle.jsonb.specs.PathGrammar.{spaced, joined_by, last_and, level_end, keyword}
unfoldable pub use Rattle.jsonb.specs.PathGrammar.{path_root, path_with, group_with, exists_with, atom_with, and_with, or_with, nested_or, expression, path_step, binary_atom, json_path, literal_value, spaced_inner, operand, spaced_operand, arithmetic_operator, operator, unary_operator, unary_atom, front_steps, first_step, plain_path, root_expression, place, entry, levels, field, entries, wildcard, named_field, bracket_field, inner}
pub use Rattle.jsonb.specs.PathLaws.{settled_literal, SameButVariants, MeanTheSame}
pub use Rattle.jsonb.specs.PathText.{operator_text, needs_parentheses, side_text, expression_text, step_text, steps_text, sign_text, joins, path_text, place_text, entry_text, levels_text, literal_text}
pub use Rattle.jsonb.specs.PathTree.{Expression, Step, Steps, steps_of, filter, Levels, UnaryOp, number, binary, BinaryOp, and_op, or_op, plus, minus, root, current, whole_expression, no_steps, step, paths, value, unary, exists, Literal, raw, boolean, string, Entry, eq, not_eq, lt, lte, gt, gte, starts_with_op, add, subtract, multiply, divide, modulo, is_predicate, dot_field, LevelEnd, Place, from_front, from_last, single, slice, level, last_level, dot_wildcard, recursive_dot_wildcard, bracket_wildcard, colon_field, object_field, array_indices}
pub use Rattle.jsonb.specs.PathViews.{step_view, steps_view, expression_view, literal_view, path_view, step_layer, expression_layer}
pub use Rattle.jsonb.specs.Positions.{IsPosition}
pub use Rattle.jsonb.specs.Preorder.{taken_item, preorder, preorder_elements, preorder_values}
pub use Rattle.jsonb.specs.Private.Alike.{AreAlike, AlikeOutcomes, HasSame, SameOutcomes}
pub use Rattle.jsonb.specs.Private.Below.{answer_at, KeepsLevel, PassesLeaves, is_shut, AreLevelsOf}
pub use Rattle.jsonb.specs.Private.Calculation.{number_list, binary_meaning, truth_list, expression_predicate, calculation, starts_with_truth}
pub use Rattle.jsonb.specs.Private.Chain.{left_of, below}
pub use Rattle.jsonb.specs.Private.ChainText.{front_text, fronts_text, link_text, links_text}
pub use Rattle.jsonb.specs.Private.Compared.{AreChildrenCompared, IsMemberCompared, IsListCompared, items_truth, mirrored, RefinesIfAny}
pub use Rattle.jsonb.specs.Private.Copying.{IsOwningError, listed, held, around, framed, frame_waiting, waiting, frame_has_document, have_document, leaf_view, leaf_parts, progress_view, progress_has_document, leaf_has_document, so_far_has_document}
pub use Rattle.jsonb.specs.Private.Counted.{waiting_parts, total}
pub use Rattle.jsonb.specs.Private.Documents.{step_has_document, expression_has_document, has_document, steps_have_document}
pub use Rattle.jsonb.specs.Private.EntriesText.{entries_text, other_entry_text}
pub use Rattle.jsonb.specs.Private.Conditions.{is_comparison}
pub use Rattle.jsonb.specs.Private.Frames.{joined_from, joined_view, joined_behind, IsUnclosed, IsPartial, closed, filter_step, steps_behind, IsOpened, AreFrames, goes_in_filter, as_path, IsOpening, opening_size, exists_closed}
unfoldable pub use Rattle.jsonb.specs.Private.Frames.{partial_outcome, filter_front, opened_outcome, resumed, opening_outcome, after_condition_outcome}
pub use Rattle.jsonb.specs.Private.Fronts.{filter_with, operand_steps, in_any_case}
pub use Rattle.jsonb.specs.Private.ItemSteps.{AreGiven}
pub use Rattle.jsonb.specs.Private.Jumps.{evaluated, next_jump, Branch, branches_of_whole, jump_truth, branches_of, taken, passed}
pub use Rattle.jsonb.specs.Private.Last.{but_last, last_step, held_by, held_by_last, last_of, down, steps_down, step_down, step_before, last_before, steps_before, text_before, ends_in_filter, closing, is_same_opening, are_same_before, is_same_before}
pub use Rattle.jsonb.specs.Private.Limited.{lifted}
pub use Rattle.jsonb.specs.Private.ItemSteps.{values_step}
pub use Rattle.jsonb.specs.Private.Members.{is_member, are_members, root_name}
pub use Rattle.jsonb.specs.Private.Pairs.{is_joined, IsPairOf}
pub use Rattle.jsonb.specs.Private.Parts.{step_parts, expression_parts, parts, steps_parts, remaining}
pub use Rattle.jsonb.specs.Private.Positions.{IsBetween}
pub use Rattle.jsonb.specs.Private.Repeated.{another_atom, another_and, another_entry, entry_list}
pub use Rattle.jsonb.specs.Private.SamePath.{SameStep, SameExpression, path_value_order, is_same_literal, is_same_entry, is_same_end, is_same_level, is_same_step, are_same_steps, is_same_expression}
pub use Rattle.jsonb.specs.Private.Search.{has_condition, FirstAhead, AreAhead, IsAhead, TakesStep, HasItems, TakesItem, IsReached, BeginsAs, conditions_in}
pub use Rattle.jsonb.specs.Private.Selected.{array_of, selected_len}
pub use Rattle.jsonb.specs.Private.Selection.{IsAt, node_spots, taken_step, only_number, IsNumberTree, IsNumberItem, value_view, only_expression, IsMadeItem, values_view, is_filter, option_spots, IsPlain, AreSelected, IsKept, step_expression, is_relative, HasTree}
pub use Rattle.jsonb.specs.Private.Tests.{AreBranches, tests_in, AreTestsOf, AreMembersCompared, IsQuestionOf, asked_names, IsTestOf, is_settled, jump_to, right_of, pending, waiting_left, parts_to_compile}
pub use Rattle.jsonb.specs.Proofs.PathOrder.{container_with_none, antisymmetric, literal-same}
pub use Rattle.jsonb.specs.Proofs.SameParts.{path-symmetric, path-transitive}
pub use Rattle.jsonb.specs.Proofs.SamePath.{entry-same, end-same, level-same, step-same, expression-same}
pub use Rattle.jsonb.specs.SelectionErrors.{IsPathError, IsSelectionError}
pub use Rattle.jsonb.specs.SelectorAnswers.{first_item, single_or_array}
pub use Rattle.jsonb.specs.Values.{Value, values_of_item, value_of_item}
pub use Rattle.jsonb.specs.declared.parser.condition.Joined.{Joined}
pub use Rattle.jsonb.specs.declared.parser.condition.PartialExpr.{PartialExpr}
pub use Rattle.jsonb.specs.declared.parser.opening.Opened.{Opened}
pub use Rattle.jsonb.specs.declared.parser.opening.Opening.{Opening}
pub use Rattle.jsonb.specs.declared.path.ArrayIndex.{ArrayIndex}
pub use Rattle.jsonb.specs.declared.path.BinaryOperator.{BinaryOperator}
pub use Rattle.jsonb.specs.declared.path.BinaryOperator.TheVariants.{Or}
pub use Rattle.jsonb.specs.declared.path.Expr.{Expr, map-Expr, fold_out-Expr, fold-roll-Expr}
unfoldable pub use Rattle.jsonb.specs.declared.path.Expr.{out-Expr}
pub use Rattle.jsonb.specs.declared.path.Expr.TheOpen.{Expr-F, Path-F}
pub use Rattle.jsonb.specs.declared.path.Expr.TheVariants.{rolls-BinaryOp, rolls-UnaryOp}
pub use Rattle.jsonb.specs.declared.path.Expr.TheViews.{roll-Path, roll-out-Path}
pub use Rattle.jsonb.specs.declared.path.Index.{Index}
pub use Rattle.jsonb.specs.declared.path.JsonPath.{JsonPath}
pub use Rattle.jsonb.specs.declared.path.Path.{Path, map-Path, fold_out-Path}
unfoldable pub use Rattle.jsonb.specs.declared.path.Path.{out-Path}
pub use Rattle.jsonb.specs.declared.path.PathValue.{PathValue}
pub use Rattle.jsonb.specs.declared.path.PathValue.TheVariants.{Null, Raw}
pub use Rattle.jsonb.specs.declared.path.RecursiveLevel.{RecursiveLevel}
pub use Rattle.jsonb.specs.declared.path.RecursiveLevelEnd.{RecursiveLevelEnd}
pub use Rattle.jsonb.specs.declared.path.UnaryOperator.{UnaryOperator}
pub use Rattle.jsonb.specs.declared.path.copying.Frame.{Frame}
pub use Rattle.jsonb.specs.declared.path.copying.Holder.{Holder}
pub use Rattle.jsonb.specs.declared.path.copying.StepsKind.{StepsKind}
pub use Rattle.jsonb.specs.declared.path.release.Remaining.{Remaining}
pub use Rattle.jsonb.specs.declared.selector.compared_lists.ListCompared.{ListCompared}
pub use Rattle.jsonb.specs.declared.selector.document.Context.{Context}
pub use Rattle.jsonb.specs.declared.selector.document.Document.{Document}
pub use Rattle.jsonb.specs.declared.selector.document.Expressions.{Expressions}
pub use Rattle.jsonb.specs.declared.selector.document.Expressions.TheVariants.{AreRefused, AreFilters}
pub use Rattle.jsonb.specs.declared.selector.document.Mode.{Mode}
pub use Rattle.jsonb.specs.declared.selector.document.Mode.TheVariants.{Lax, Strict}
pub use Rattle.jsonb.specs.declared.selector.document.Repeats.{Repeats}
pub use Rattle.jsonb.specs.declared.selector.document.Repeats.TheVariants.{AreDropped}
pub use Rattle.jsonb.specs.declared.selector.first_item.FirstItem.{FirstItem}
pub use Rattle.jsonb.specs.declared.selector.levels.LevelRange.{LevelRange}
pub use Rattle.jsonb.specs.declared.selector.levels.OpenLevel.{OpenLevel}
pub use Rattle.jsonb.specs.declared.selector.node_list.NodeList.{NodeList}
pub use Rattle.jsonb.specs.declared.selector.operand_value.OperandValues.{OperandValues}
pub use Rattle.jsonb.specs.declared.selector.pair.Pair.{Pair}
pub use Rattle.jsonb.specs.declared.selector.plan.Condition.{Condition}
pub use Rattle.jsonb.specs.declared.selector.plan.Jump.{Jump}
pub use Rattle.jsonb.specs.declared.selector.plan.MemberCompared.{MemberCompared}
pub use Rattle.jsonb.specs.declared.selector.plan.MembersCompared.{MembersCompared}
pub use Rattle.jsonb.specs.declared.selector.plan.Question.{Question}
pub use Rattle.jsonb.specs.declared.selector.plan.Test.{Test}
pub use Rattle.jsonb.specs.declared.selector.search.Ahead.{Ahead}
pub use Rattle.jsonb.specs.declared.selector.search.Items.{Items}
pub use Rattle.jsonb.specs.declared.selector.children.StepItems.{StepItems}
pub use Rattle.jsonb.specs.declared.selector.search.Waiting.{Waiting}
pub use Rattle.jsonb.specs.declared.selector.selected.MadeItem.{MadeItem}
pub use Rattle.jsonb.specs.declared.selector.selected.Selected.{Selected}
pub use Rattle.jsonb_doc.proofs.Basics.{zip_along}
pub use Rattle.jsonb_doc.proofs.BuilderSteps.{front_step, answered}
pub use Rattle.jsonb_doc.proofs.EqualValues.{number_cmp-number_view}
pub use Rattle.jsonb_doc.proofs.LimitLemmas.{array_too_large-element}
pub use Rattle.jsonb_doc.proofs.PartLemmas.{fewer_parts}
pub use Rattle.jsonb_doc.proofs.SpotsTaken.{taken_spot, no_refusal, decodes_any, some_spots, no_spots}
pub use Rattle.jsonb_doc.specs.Answer.{Outcome, try_flat_map, and_then, Refines}
pub use Rattle.jsonb_doc.specs.AnyBytes.Spots.{spots_bound}
pub use Rattle.jsonb_doc.specs.Arithmetic.{Operation, calculated, IsResultOf, negated, is_decimal}
pub use Rattle.jsonb_doc.specs.declared.error.ArithmeticFault.TheVariants.{Overflow, Inexact, ZeroDivisor, DecimalOperand}
pub use Rattle.jsonb_doc.specs.declared.error.Error.{Error}
pub use Rattle.jsonb_doc.specs.declared.error.Error.TheVariants.{InvalidJsonPath, OutOfMemory, TooLarge, Arithmetic, StrictPath}
pub use Rattle.jsonb_doc.specs.declared.number.Number.TheVariants.{Int64, UInt64, Decimal64, Decimal128}
pub use Rattle.jsonb_doc.specs.declared.spot.Spot.{Spot}
pub use Rattle.jsonb_doc.specs.declared.spot_iter.SpotIter.{SpotIter}
pub use Rattle.jsonb_keypath.proofs.CutLemmas.{some-literal, nothing}
pub use Rattle.jsonb_keypath.proofs.GrowsLemmas.{grows-ws, some-quoted, some-integer_within, some-natural_below, some-name}
pub use Rattle.jsonb_keypath.proofs.KeyPathReadsBack.{whole-some, begins-signed_decimal}
pub use Rattle.jsonb_keypath.proofs.NameLemmas.{quoted-quoted_text, quoted-none, name-plain, begins-plain, name-none}
pub use Rattle.jsonb_keypath.proofs.ReadBackLemmas.{front, begins, natural_below-none, stops, begins-decimal, is_number_start, is_sign, past-run, natural_below-decimal, integer_within-signed_decimal, integer_within-none}
pub use Rattle.jsonb_keypath.proofs.ReadsLemmas.{NeverGrows, some-no_more, grows-give, grows-then, then-some, grows-only_if, some-then, grows-choice, some-choice}
pub use Rattle.jsonb_keypath.proofs.RepeatLemmas.{repeat-goes, repeat-ends, behind, loop-goes, loop-ends}
pub use Rattle.jsonb_keypath.proofs.YieldsLemmas.{Yields, IsName, yields-give, yields-then, yields-behind, yields-choice, yields-repeat, yields-list_of, yields-integer_within, yields-natural_below, yields-name, yields-quoted}
pub use Rattle.jsonb_keypath.specs.Rules.{optional}
pub use Rattle.jsonb_keypath.specs.Tokens.{nat8}
pub use Rattle.jsonb_keypath.specs.Views.{read_as, ConsumesInput}
pub use Rattle.jsonb_raw.specs.declared.owned.OwnedJsonb.{OwnedJsonb}
pub use Rattle.std.proofs.Math.Bool.{beq}
pub use Rattle.std.proofs.Math.Seq.{take-length, drop-cons}
pub use Rattle.std.proofs.Output.{writes_in_calls_nil}
pub use Rattle.std.proofs.lemmas.Bool.{le-leb, lt-leb}
pub use Rattle.std.proofs.lemmas.Bool.Decides.{Decides-and}
pub use Rattle.std.proofs.lemmas.Int.{by_lt_z}
pub use Rattle.std.proofs.lemmas.List.{reverse-reverse, drop-set-lt}
pub use Rattle.std.proofs.lemmas.List.Folds.{find-append}
pub use Rattle.std.proofs.lemmas.Option.{slice_get_within}
pub use Rattle.std.specs.Cmp.{bool_cmp_total}
pub use Rattle.std.specs.HashSet.{contains}
pub use Rattle.std.specs.List.{Any, cons_option, range_with_len}
pub use Rattle.std.specs.Option.{option_zip}
pub use Rattle.std.specs.Ordering.{is_some_and}
pub use Rattle.std.specs.Vec.{vec_capacity}
pub use Rattle.std.specs.declared.borrow.CowStr.{CowStr}
pub use Rattle.std.specs.declared.cmp.Ordering.{Ordering}
pub use Rattle.std.specs.declared.cmp.Ordering.TheVariants.{Equal}
pub use denote.Enum.Bare.{same_true, true_same}
pub use mir.Syntax.{w128}
pub use Rattle.jsonb.specs.Private.Columns.{results, column_at, AreEach, AreFrom, AreMade, AreMapped, ArePairs, AreBoth, ReturnsAtBoth, AreSound, IsTruth, IsList, AreValues, AreTruths, AreLists, flat, HasSome}
pub use Rattle.jsonb.specs.Private.Onward.{both_truths, compared_values, exists_of, values_found, path_steps, filtered_after, Aim, WaitsFor, TruthsLead, IsForItems, starts_of, IsOnward, IsSoundFrame, IsSoundTurn, AreSoundFrames, step_weight, steps_weight, turn_weight, frames_weight}
pub use Rattle.jsonb.specs.declared.selector.column.Column.{Column}
pub use Rattle.jsonb.specs.declared.selector.expressions.Evaluation.{Evaluation}
