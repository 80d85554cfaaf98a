use Rattle.jsonb_raw.proofs.Common.{◌≡◌, ◌||◌, ◌∙◌, ◌∷◌, ◌++◌, ◌+◌, ℕ, zero, suc, Bool, true, false, true≢false, List, [], take, drop, None, refl, sym, arith, list_any, list_any-append, Trees, no_trees, elements, is_equal, Form, HasEntriesLeft, GivesEntry, Entries}
use Rattle.jsonb_raw.proofs.EntriesLeft.{SomeEntries, SomeEntries-first}
use Rattle.jsonb_raw.proofs.functions.array.overlap.take_hashes.Goals as goal

-- after the last entry none is left
none_left : (form : Form) (it after : Entries) (Q : Trees → Type 0) → GivesEntry it None after → SomeEntries form it Q → HasEntriesLeft form after no_trees × Q no_trees
none_left form it after Q gives s = grind arith

module _ {X : Type 0} where
  -- one more was taken
  one_more : (n : ℕ) (xs : List X) (x : X) (rest : List X) → x ∷ rest ≡ drop n xs → (rest ≡ drop (n + 1) xs) × (take (n + 1) xs ≡ take n xs ++ x ∷ [])
  one_more zero xs x rest e = grind arith
  one_more (suc n) [] x rest e = grind arith
  one_more (suc n) (y ∷ ys) x rest e = grind (arith, one_more n ys x rest)

module _ {B : Type 0} where
  -- what follows of one of two follows if either holds
  either : (a b : Bool) → (a ≡ true → B) → (b ≡ true → B) → (a || (b || false)) ≡ true → B
  either a b f g e = grind arith

pub loop-block-init : goal.loop-block-init
loop-block-init c = record {
  some = omega arith;
  few = omega arith;
  more = refl;
  words = refl;
  fewer = omega arith;
  left = λ form us h. record { trees = us; left = h; fact = (refl, λ t some excluded. absurd (true≢false (sym some))) };
}

pub loop-block-preserved : goal.loop-block-preserved
loop-block-preserved c = record {
  some = omega arith;
  few = omega arith;
  more = c.loop-block.invariant.more;
  words = c.add_hash.ensures.length ∙ c.loop-block.invariant.words;
  fewer = let lower = c.in-Some.ensures.goes.on tt in omega (arith, lower.2);
  left = λ form us h.
      SomeEntries-first form _ _ _ _ _ c.in_ok-entry.was c.in-Some.ensures.steps (c.loop-block.invariant.left form us h)
      (λ first rest left stored fact. record {
        trees = rest;
        left = left;
        fact = ((one_more _ (elements us) first (elements rest) fact.0).0, λ t some excluded. absurd (true≢false excluded));
      });
}

pub loop-block-preserved-then-add_hash : goal.loop-block-preserved-then-add_hash
loop-block-preserved-then-add_hash c = record {
  some = omega arith;
  few = omega arith;
  more = c.loop-block.invariant.more;
  words = c.add_hash.ensures.length ∙ c.loop-block.invariant.words;
  fewer = let lower = c.in-Some.ensures.goes.on tt in omega (arith, lower.2);
  left = λ form us h.
      SomeEntries-first form _ _ _ _ _ c.in_ok-entry.was c.in-Some.ensures.steps (c.loop-block.invariant.left form us h)
      (λ first rest left stored fact.
      let taken = one_more _ (elements us) first (elements rest) fact.0 in
      record {
        trees = rest;
        left = left;
        fact = (
          taken.0,
          λ t some excluded.
              either (list_any (is_equal t) (take c.loop-block.block.count (elements us))) (is_equal t first)
              (λ e. c.add_hash.ensures.kept t (fact.1 t e excluded))
              (λ e. c.add_hash.ensures.added form t first stored e c.if-add_hash.true)
              (sym (list_any-append (is_equal t) _ (first ∷ [])) ∙ (rw taken.1 at some)),
        );
      });
}

pub returns-in_default-clause-passed : goal.returns-in_default-clause-passed
returns-in_default-clause-passed c = λ form us h.
    let none = none_left form _ _ _ c.in_default.ensures.steps (c.loop-block.invariant.left form us h) in (no_trees, none.0, none.1.0)

pub returns-in_default-clause-ended : goal.returns-in_default-clause-ended
returns-in_default-clause-ended c = λ form us h last.
    sym (none_left form _ _ _ c.in_default.ensures.steps (c.loop-block.invariant.left form us h)).1.0

pub returns-in_default-clause-marked : goal.returns-in_default-clause-marked
returns-in_default-clause-marked c = λ form us t h. (none_left form _ _ _ c.in_default.ensures.steps (c.loop-block.invariant.left form us h)).1.1 t

pub returns-then-block-ge-SMALL-clause-passed : goal.returns-then-block-ge-SMALL-clause-passed
returns-then-block-ge-SMALL-clause-passed c = λ form us h. let s = c.loop-block.invariant.left form us h in (s.trees, s.left, s.fact.0)

pub returns-then-block-ge-SMALL-clause-marked : goal.returns-then-block-ge-SMALL-clause-marked
returns-then-block-ge-SMALL-clause-marked c = λ form us t h some excluded.
    c.add_hash.ensures.kept t ((c.loop-block.invariant.left form us h).fact.1 t some excluded)

pub returns-clause-passed : goal.returns-clause-passed
returns-clause-passed c = λ form us h. let s = c.loop-block.invariant.left form us h in (s.trees, s.left, s.fact.0)

pub returns-clause-marked : goal.returns-clause-marked
returns-clause-marked c = λ form us t h. (c.loop-block.invariant.left form us h).fact.1 t
