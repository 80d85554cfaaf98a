use Rattle.jsonb.proofs.Lemmas.{arith, ◌≡◌, ◌∙◌, sym, List, [], ◌∷◌, ℕ, ap, ap₂, refl, Option, Some, None, Result, Ok, Err, IfOk, IfSome, Vec, AllZip, AllByRecursion, Outcome, Refines, SameOption, AreBytes, Tree, canonical, Decodes, Error, one_canonical_document, OwnedJsonb}
use Rattle.std.specs.declared.alloc.Global.{Global}
use Rattle.jsonb.proofs.laws.selections_are_determined.Goals as goal

one_document : (t : Tree) (made other : List ℕ) → Decodes canonical made t → Decodes canonical other t
    → AreBytes made → AreBytes other → other ≡ made
one_document t made other h k all all' =
    one_canonical_document other t all' k ∙ sym (one_canonical_document made t all h)

-- documents of the same trees
each_document : (ts : List Tree) (made other : List OwnedJsonb) → AllZip (Decodes canonical) made ts
    → AllZip (Decodes canonical) other ts → AllByRecursion AreBytes made → AllByRecursion AreBytes other → other ≡ made
each_document [] [] [] h k all all' = refl
each_document (t ∷ ts) (x ∷ xs) (y ∷ ys) h k all all' =
    ap₂ (λ first rest. first ∷ rest) (one_document t x y h.0 k.0 all.0 all'.0) (each_document ts xs ys h.1 k.1 all.1 all'.1)
each_document _ _ _ h k all all' = grind arith

maybe_document : (found : Option Tree) (made other : Option OwnedJsonb) → SameOption (Decodes canonical) made found
    → SameOption (Decodes canonical) other found → IfSome made AreBytes → IfSome other AreBytes → other ≡ made
maybe_document None None None h k all all' = refl
maybe_document (Some t) (Some x) (Some y) h k all all' = ap Some (one_document t x y h k all all')
maybe_document _ _ _ h k all all' = grind arith

-- two results of one meaning
both : {A T : Type 0} {R : A → T → Type 0} {E : Error → Type 0} (Q : A → A → Type 0) → ((t : T) (a b : A) → R a t → R b t → Q a b)
    → (meaning : Outcome T) (r s : Result A Error) → Refines R E r meaning → Refines R E s meaning → IfOk r (λ a. IfOk s (λ b. Q a b))
both Q q (Ok t) (Ok a) (Ok b) h k = q t a b h.ok k.ok
both Q q (Err e) (Ok a) s h k = elim h.ok [ ]
both Q q (Ok t) (Ok a) (Err e) h k = tt
both Q q meaning (Err e) s h k = tt

pub returns : goal.returns
returns c = record {
  all = λ meaning r s. both (λ (made other : Vec OwnedJsonb Global). AllByRecursion AreBytes made.items → AllByRecursion AreBytes other.items
      → other.items ≡ made.items) (λ ts made other h k. each_document ts made.items other.items h k) meaning r s;
  array = λ meaning r s. both (λ (made other : OwnedJsonb). AreBytes made → AreBytes other → other ≡ made)
      (λ ts made other h k. one_document _ made other h k) meaning r s;
  picked = λ pick meaning r s. both (λ (made other : Option OwnedJsonb). IfSome made AreBytes → IfSome other AreBytes → other ≡ made)
      (λ ts made other h k. maybe_document (pick ts) made other h k) meaning r s;
}
