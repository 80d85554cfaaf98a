use Rattle.jsonb.proofs.Lemmas.{rules, ◌≡◌, List, [], ◌∷◌, ◌++◌, false, refl, sym, ap, ◌∙◌, arith, expression_has_document, binary, expression_view, framed, waiting, have_document, frame_has_document, Frame, framed-more, waiting-push, have_document-push, none_of_both, not_first, not_second, view-binary, view-unary}
use Rattle.jsonb.specs.declared.path.copying.Frame.TheVariants as frame
use Rattle.jsonb.proofs.path.copying.put_in.Goals as goal

-- no frame that is left has a document
none_left : (rest frames : List Frame) (f : Frame) → frames ≡ rest ++ f ∷ [] → have_document frames ≡ false → have_document rest ≡ false
none_left rest frames f had none = not_first (have_document rest) (frame_has_document f) (sym (ap have_document had ∙ have_document-push rest f) ∙ none)

none_taken : (rest frames : List Frame) (f : Frame) → frames ≡ rest ++ f ∷ [] → have_document frames ≡ false → frame_has_document f ≡ false
none_taken rest frames f had none = not_second (have_document rest) (frame_has_document f) (sym (ap have_document had ∙ have_document-push rest f) ∙ none)

pub returns-in-Right : goal.returns-in-Right
returns-in-Right c =
    let rest = c.pop.new.self.items in
    let op = c.in-Right.op in
    let taken : Frame = frame.Right op c.in-Right.right in
    let put : Frame = frame.Left op c.in_ok-left-in-Right.left in
    let had : c.loop-frame.frames.items ≡ rest ++ taken ∷ [] = c.in-Some.ensures.items ∙ ap (λ f. rest ++ f ∷ []) c.in-Right.is in
    let has : c.push.new.self.items ≡ rest ++ put ∷ [] = c.in_ok-push-in-Right.ensures.items in
    let before = ap waiting had ∙ waiting-push rest taken in
    let after = ap waiting has ∙ waiting-push rest put in
    record {
      whole = framed-more rest c.push.new.self.items put (expression_view c.in-Right.right.now) _ has
          (ap (λ e. binary op (expression_view e) (expression_view c.in-Right.right.now)) c.in_ok-left-in-Right.ensures.ok)
          ∙ sym (framed-more rest c.loop-frame.frames.items taken (expression_view c.loop-frame.copy) _ had refl)
          ∙ c.loop-frame.invariant.whole;
      fewer = omega (arith, c.loop-frame.invariant.fewer);
      documents = λ none clean.
          let so_far = c.loop-frame.invariant.documents none clean in
          ap have_document has ∙ have_document-push rest put
          ∙ none_of_both (have_document rest) (frame_has_document put) (none_left rest c.loop-frame.frames.items taken had so_far.0)
          (ap (λ e. expression_has_document (expression_view e)) c.in_ok-left-in-Right.ensures.ok ∙ so_far.1);
      errors = tt;
    }

pub returns-in-Held : goal.returns-in-Held
returns-in-Held c =
    let rest = c.pop.new.self.items in
    let taken : Frame = frame.Held c.in-Held.holder c.in-Held.steps in
    let had : c.loop-frame.frames.items ≡ rest ++ taken ∷ [] = c.in-Some.ensures.items ∙ ap (λ f. rest ++ f ∷ []) c.in-Held.is in
    let before = ap waiting had ∙ waiting-push rest taken in
    let same = c.in_ok-with_held-in-Held.ensures.fewer in
    record {
      whole = ap (framed rest) c.in_ok-with_held-in-Held.ensures.whole
          ∙ sym (framed-more rest c.loop-frame.frames.items taken (expression_view c.loop-frame.copy) _ had refl)
          ∙ c.loop-frame.invariant.whole;
      fewer = omega (arith, c.loop-frame.invariant.fewer);
      documents = λ none clean.
          let so_far = c.loop-frame.invariant.documents none clean in
          none_of_both (have_document rest) _ (none_left rest c.loop-frame.frames.items taken had so_far.0)
          (c.in_ok-with_held-in-Held.ensures.documents (none_taken rest c.loop-frame.frames.items taken had so_far.0) so_far.1);
      errors = tt;
    }

pub loop-frame-preserved-in-Left : goal.loop-frame-preserved-in-Left
loop-frame-preserved-in-Left c =
    let rest = c.pop.new.self.items in
    let op = c.in-Left.op in
    let left = c.in-Left.left in
    let right = c.in_ok-right-in-Left.right in
    let taken : Frame = frame.Left op left in
    let had : c.loop-frame.frames.items ≡ rest ++ taken ∷ [] = c.in-Some.ensures.items ∙ ap (λ f. rest ++ f ∷ []) c.in-Left.is in
    let before = ap waiting had ∙ waiting-push rest taken in
    let made = view-binary op left right
    ∙ ap (λ e. binary op (expression_view left.value) (expression_view e)) c.in_ok-right-in-Left.ensures.ok in
    record {
      whole = ap (framed rest) made ∙ sym (framed-more rest c.loop-frame.frames.items taken (expression_view c.loop-frame.copy) _ had refl)
          ∙ c.loop-frame.invariant.whole;
      fewer = omega (arith, c.loop-frame.invariant.fewer);
      documents = λ none clean.
          let so_far = c.loop-frame.invariant.documents none clean in (
            none_left rest c.loop-frame.frames.items taken had so_far.0,
            ap expression_has_document made ∙ none_of_both _ _ (none_taken rest c.loop-frame.frames.items taken had so_far.0) so_far.1,
          );
    }

pub loop-frame-preserved : goal.loop-frame-preserved
loop-frame-preserved c = search (rules, waiting-push, view-unary, framed-more, none_left)
