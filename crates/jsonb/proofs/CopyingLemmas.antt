-- Frames that grow and shrink at their inner end.
use Rattle.jsonb.proofs.Common.{◌≡◌, ◌+◌, ◌<◌, List, [], ◌∷◌, ◌++◌, Bool, true, false, refl, sym, ap, ◌∙◌, append_assoc, arith, ◌||◌, map-append, Error, step_has_document, expression_has_document, has_document, Step, Expression, steps_of, step_view, steps_view, IsOwningError, listed, held, around, framed, frame_waiting, waiting, frame_has_document, have_document, expression_parts, Path, Holder, StepsKind, Frame}
use Rattle.std.proofs.lemmas.List.{append-nil}
use Rattle.jsonb.proofs.PartLemmas.{row_parts, some_step_parts}
use Rattle.jsonb.proofs.DocumentLemmas.{has_document-append, or_true}
pub use Rattle.jsonb.proofs.DocumentLemmas.{not_first, not_second}
pub use Rattle.jsonb_doc.proofs.Basics.{or_false}

pub framed-push : (fs : List Frame) (f : Frame) (e : Expression) → framed (fs ++ f ∷ []) e ≡ framed fs (around f e)
framed-push [] f e = refl
framed-push (g ∷ fs) f e = ap (around g) (framed-push fs f e)

-- one more frame around an expression, which makes another of it
pub framed-more : (fs more : List Frame) (f : Frame) (e outer : Expression) → more ≡ fs ++ f ∷ [] → around f e ≡ outer → framed more e ≡ framed fs outer
framed-more fs more f e outer is same = ap (λ (gs : List Frame). framed gs e) is ∙ framed-push fs f e ∙ ap (framed fs) same

pub waiting-push : (fs : List Frame) (f : Frame) → waiting (fs ++ f ∷ []) ≡ waiting fs + frame_waiting f
waiting-push [] f = omega arith
waiting-push (g ∷ fs) f = let rest = waiting-push fs f in omega arith

pub have_document-push : (fs : List Frame) (f : Frame) → have_document (fs ++ f ∷ []) ≡ have_document fs || frame_has_document f
have_document-push [] f = grind arith
have_document-push (g ∷ fs) f = grind (arith, have_document-push fs f)

pub none_of_both : (a b : Bool) → a ≡ false → b ≡ false → a || b ≡ false
none_of_both a b h k = rw (h, k) refl

-- ---- steps, the first ones copied

pub held-document : (h : Holder) (e : Expression) → step_has_document (held h e) ≡ expression_has_document e
held-document h e = grind arith

-- one more copy
pub clean_more : (copies more : List Path) (copy : Path) → more ≡ copies ++ copy ∷ [] → step_has_document (step_view copy) ≡ false
    → has_document (steps_view copies) ≡ false → has_document (steps_view more) ≡ false
clean_more copies more copy is clean before = grind (arith, map-append, has_document-append)

-- a copy goes from the rest to the copies
pub copies_more : (copies more : List Path) (copy : Path) (rest : List Step) → more ≡ copies ++ copy ∷ []
    → steps_view more ++ rest ≡ steps_view copies ++ step_view copy ∷ rest
copies_more copies more copy rest is = rw (is, map-append step_view copies (copy ∷ []), append_assoc (steps_view copies) (step_view copy ∷ []) rest) refl

-- ---- a document inside is one of the whole

pub step_more : (copies more : List Path) (copy : Path) (left behind : List Path) (s : Path) → more ≡ copies ++ copy ∷ [] → step_view copy ≡ step_view s
    → left ≡ s ∷ behind → steps_view more ++ steps_view behind ≡ steps_view copies ++ steps_view left
step_more copies more copy left behind s is same front = rw (front, copies_more copies more copy (steps_view behind) is, same) refl

-- the next step holds an expression
pub step_held : (copies left behind : List Path) (s : Path) (h : Holder) (e : Expression) → held h e ≡ step_view s → left ≡ s ∷ behind
    → steps_view copies ++ held h e ∷ steps_view behind ≡ steps_view copies ++ steps_view left
step_held copies left behind s h e same front = rw (front, same) refl

pub step_held-parts : (left behind : List Path) (s : Path) (h : Holder) (e : Expression) → held h e ≡ step_view s → left ≡ s ∷ behind
    → row_parts left ≡ 1 + expression_parts e + row_parts behind
step_held-parts left behind s h e same front = grind arith

pub step_fewer : (left behind : List Path) (s : Path) → left ≡ s ∷ behind → row_parts behind < row_parts left
step_fewer left behind s front = let all = ap row_parts front in let some = some_step_parts (step_view s) in omega arith

pub none_left_view : (copies left : List Path) → left ≡ [] → steps_view copies ≡ steps_view copies ++ steps_view left
none_left_view copies left none = sym (append-nil (steps_view copies)) ∙ sym (ap (λ l. steps_view copies ++ steps_view l) none)

steps-document : (k : StepsKind) (ss ts : List Step) (s : Step) → step_has_document s ≡ true
    → expression_has_document (listed k (steps_of (ss ++ s ∷ ts))) ≡ true
steps-document k ss ts s h = grind (arith, has_document-append, or_true)

around-document : (f : Frame) (e : Expression) → expression_has_document e ≡ true → expression_has_document (around f e) ≡ true
around-document f e h = grind (arith, or_true, steps-document, held-document)

framed-document : (fs : List Frame) (e : Expression) → expression_has_document e ≡ true → expression_has_document (framed fs e) ≡ true
framed-document [] e h = h
framed-document (f ∷ fs) e h = around-document f (framed fs e) (framed-document fs e h)

pub owning_error-framed : (fs : List Frame) (e whole : Expression) (x : Error) → framed fs e ≡ whole
    → IsOwningError (expression_has_document e) x → IsOwningError (expression_has_document whole) x
owning_error-framed fs e whole x is h = grind (arith, framed-document)
