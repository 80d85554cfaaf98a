-- What surrounds a node of an expression that is being copied, the outermost first.
use Rattle.std.specs.Prelude.{◌≡◌, ◌⊎◌, ℕ, ◌+◌, Bool, true, false, ◌||◌, List, [], ◌∷◌, ◌++◌}
use Rattle.std.specs.Slice.Iter.{iter_rest}
use Rattle.jsonb_doc.specs.declared.error.Error.{Error}
use Rattle.jsonb_doc.specs.declared.error.Error.TheVariants.{OutOfMemory, InvalidJsonPath}
use Rattle.jsonb.specs.Private.Documents.{step_has_document, expression_has_document, has_document}
use Rattle.jsonb.specs.PathTree.{Step, filter, whole_expression, Steps, Expression, paths, value, binary, unary, exists, steps_of}
use Rattle.jsonb.specs.PathViews.{literal_view, step_view, steps_view, expression_view}
use Rattle.jsonb.specs.Private.Parts.{steps_parts, parts}
use Rattle.jsonb.specs.declared.path.copying.Copied.{Copied}
use Rattle.jsonb.specs.declared.path.copying.Copied.TheVariants as copied
use Rattle.jsonb.specs.declared.path.copying.Frame.{Frame}
use Rattle.jsonb.specs.declared.path.copying.Frame.TheVariants as frame
use Rattle.jsonb.specs.declared.path.copying.Holder.{Holder}
use Rattle.jsonb.specs.declared.path.copying.Holder.TheVariants as holder
use Rattle.jsonb.specs.declared.path.copying.Leaf.{Leaf}
use Rattle.jsonb.specs.declared.path.copying.Leaf.TheVariants as leaf
use Rattle.jsonb.specs.declared.path.copying.Next.{Next}
use Rattle.jsonb.specs.declared.path.copying.Next.TheVariants as next
use Rattle.jsonb.specs.declared.path.copying.Progress.{Progress}
use Rattle.jsonb.specs.declared.path.copying.Progress.TheVariants as progress
use Rattle.jsonb.specs.declared.path.copying.StepCopy.{StepCopy}
use Rattle.jsonb.specs.declared.path.copying.StepCopy.TheVariants as step_copy
use Rattle.jsonb.specs.declared.path.copying.StepsKind.{StepsKind}
use Rattle.jsonb.specs.declared.path.copying.StepsKind.TheVariants as kind
use Rattle.jsonb.specs.declared.path.copying.StepsSoFar.{StepsSoFar}

-- holds if an allocation failed, or there is a document, which cannot be owned
abbrev pub IsOwningError : Bool → Error → Type 0
IsOwningError has_document e = (e ≡ OutOfMemory) ⊎ ((e ≡ InvalidJsonPath) × (has_document ≡ true))

-- ---- steps, the first ones copied

abbrev pub listed : StepsKind → Steps → Expression
listed kind.Paths ss = paths ss
listed kind.Exists ss = exists ss

abbrev pub held : Holder → Expression → Step
held holder.Filter e = filter e
held holder.Whole e = whole_expression e

abbrev pub so_far_view : StepsSoFar → Expression
so_far_view s = listed s.kind (steps_of (steps_view s.copies.items ++ steps_view (iter_rest s.rest)))

-- with one more between the copies and the rest
abbrev pub held_view : Holder → StepsSoFar → Expression → Expression
held_view h s e = listed s.kind (steps_of (steps_view s.copies.items ++ held h e ∷ steps_view (iter_rest s.rest)))

-- how many parts are not copied
abbrev pub so_far_parts : StepsSoFar → ℕ
so_far_parts s = 1 + steps_parts (steps_of (steps_view (iter_rest s.rest)))

-- whether a copy has a document
abbrev pub so_far_has_document : StepsSoFar → Bool
so_far_has_document s = has_document (steps_view s.copies.items)

abbrev pub step_copy_view : StepCopy → Step
step_copy_view (step_copy.Whole s) = step_view s
step_copy_view (step_copy.Holding h inner) = held h (expression_view inner.now)

abbrev pub step_copy_has_document : StepCopy → Bool
step_copy_has_document (step_copy.Whole s) = step_has_document (step_view s)
step_copy_has_document (step_copy.Holding h inner) = false

-- ---- leaves

abbrev pub leaf_view : Leaf → Expression
leaf_view (leaf.Value literal) = value (literal_view literal.now)
leaf_view (leaf.Steps s) = so_far_view s

abbrev pub leaf_parts : Leaf → ℕ
leaf_parts (leaf.Value literal) = 1
leaf_parts (leaf.Steps s) = so_far_parts s

abbrev pub leaf_has_document : Leaf → Bool
leaf_has_document (leaf.Value literal) = false
leaf_has_document (leaf.Steps s) = so_far_has_document s

-- ---- frames

abbrev pub around : Frame → Expression → Expression
around (frame.Right op right) e = binary op e (expression_view right.now)
around (frame.Left op left) e = binary op (expression_view left.value) e
around (frame.Sign op) e = unary op e
around (frame.Held h s) e = held_view h s e

abbrev pub framed : List Frame → Expression → Expression
framed [] e = e
framed (f ∷ fs) e = around f (framed fs e)

abbrev pub frame_waiting : Frame → ℕ
frame_waiting (frame.Right op right) = parts right.now
frame_waiting (frame.Left op left) = 0
frame_waiting (frame.Sign op) = 0
frame_waiting (frame.Held h s) = so_far_parts s

abbrev pub waiting : List Frame → ℕ
waiting [] = 0
waiting (f ∷ fs) = frame_waiting f + waiting fs

abbrev pub frame_has_document : Frame → Bool
frame_has_document (frame.Right op right) = false
frame_has_document (frame.Left op left) = expression_has_document (expression_view left.value)
frame_has_document (frame.Sign op) = false
frame_has_document (frame.Held h s) = so_far_has_document s

abbrev pub have_document : List Frame → Bool
have_document [] = false
have_document (f ∷ fs) = frame_has_document f || have_document fs

-- ---- how far a leaf is copied

abbrev pub copied_view : Copied → Expression
copied_view (copied.Whole copy) = expression_view copy
copied_view (copied.Within inner f) = around f (expression_view inner.now)

abbrev pub copied_parts : Copied → ℕ
copied_parts (copied.Whole copy) = 0
copied_parts (copied.Within inner f) = frame_waiting f + parts inner.now

abbrev pub copied_has_document : Copied → Bool
copied_has_document (copied.Whole copy) = expression_has_document (expression_view copy)
copied_has_document (copied.Within inner f) = frame_has_document f

-- ---- what is next within the frames

abbrev pub next_view : List Frame → Next → Expression
next_view fs (next.Right right) = framed fs (expression_view right.now)
next_view fs (next.Steps s) = framed fs (so_far_view s)
next_view fs (next.Whole copy) = expression_view copy

abbrev pub next_parts : Next → ℕ
next_parts (next.Right right) = parts right.now
next_parts (next.Steps s) = so_far_parts s
next_parts (next.Whole copy) = 0

abbrev pub next_has_document : List Frame → Next → Bool
next_has_document fs (next.Right right) = have_document fs
next_has_document fs (next.Steps s) = have_document fs || so_far_has_document s
next_has_document fs (next.Whole copy) = expression_has_document (expression_view copy)

-- ---- how far the whole is copied

abbrev pub progress_view : Progress → Expression
progress_view (progress.Leaf reached) = framed reached.frames.items (leaf_view reached.leaf)
progress_view (progress.Whole copy) = expression_view copy

abbrev pub progress_parts : Progress → ℕ
progress_parts (progress.Leaf reached) = waiting reached.frames.items + leaf_parts reached.leaf
progress_parts (progress.Whole copy) = 0

abbrev pub progress_has_document : Progress → Bool
progress_has_document (progress.Leaf reached) = have_document reached.frames.items || leaf_has_document reached.leaf
progress_has_document (progress.Whole copy) = expression_has_document (expression_view copy)
