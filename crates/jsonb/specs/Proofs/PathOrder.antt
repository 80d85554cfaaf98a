-- The order of the literals of a path is a partial order, and their equality symmetric and transitive.
use mathlib.Core.Path.{ap, ◌∙◌}
use Rattle.std.specs.Prelude.{◌≡◌, Bool, true, refl, Option, Some, None}
use Rattle.std.specs.Bool.{Decides}
use Rattle.std.specs.Option.{option_map}
use Rattle.std.specs.declared.cmp.Ordering.{Ordering}
use Rattle.std.specs.declared.cmp.Ordering.TheVariants.{Less, Equal, Greater}
use Rattle.std.specs.Ordering.{is_eq, is_some_and, ordering_reverse, bool_cmp, nat_cmp}
use Rattle.std.specs.Cmp.{IsPartialEquivalence, IsPartialOrder, Equal-is, bool_cmp_total, on_per, on_po}
use Rattle.std.specs.Cmp.Lexicographic.{slice_cmp, nat_list_cmp_total}
use Rattle.jsonb_doc.specs.Proofs.NumberOrder.{number_cmp_total}
use Rattle.jsonb_doc.specs.Number.{number_cmp}
use Rattle.jsonb.specs.Compare.{value_order}
use Rattle.jsonb.specs.PathEquality.{literal_order, SameLiteral}
use Rattle.jsonb.specs.PathTree.{Literal}
use Rattle.jsonb.specs.Private.SamePath.{is_same_literal}
use Rattle.jsonb.specs.Values.{Value, null, boolean, number, text, container, literal_value}

abbrev value_equal : Value → Value → Bool
value_equal v w = is_some_and is_eq (value_order v w)

below : (r : Ordering) → Some r ≡ Some Less → r ≡ Less
below r e = cc

pub container_with_none : (w : Value) → value_order container w ≡ None
container_with_none null = refl
container_with_none (boolean b) = refl
container_with_none (number m) = refl
container_with_none (text s) = refl
container_with_none container = refl

pub antisymmetric : (v w : Value) → value_order v w ≡ option_map ordering_reverse (value_order w v)
antisymmetric null null = refl
antisymmetric (boolean b) (boolean c) = ap Some (bool_cmp_total.antisymm b c)
antisymmetric (number m) (number n) = ap Some (number_cmp_total.antisymm m n)
antisymmetric (text s) (text t) = ap Some (nat_list_cmp_total.antisymm s t)
antisymmetric container null = refl
antisymmetric container (boolean b) = refl
antisymmetric container (number n) = refl
antisymmetric container (text t) = refl
antisymmetric _ _ = refl

transitive : (v w x : Value) → value_order v w ≡ Some Less → value_order w x ≡ Some Less → value_order v x ≡ Some Less
transitive null null x p q = q
transitive null (boolean c) x p q = cc
transitive null (number n) x p q = cc
transitive null (text t) x p q = cc
transitive null container x p q = cc
transitive (boolean b) (boolean c) (boolean d) p q = ap Some (bool_cmp_total.trans b c d (below _ p) (below _ q))
transitive (number l) (number m) (number n) p q = ap Some (number_cmp_total.trans l m n (below _ p) (below _ q))
transitive (text s) (text t) (text u) p q = ap Some (nat_list_cmp_total.trans s t u (below _ p) (below _ q))
transitive container w x p q = let e = container_with_none w in cc
transitive _ _ _ p q = cc

impossible : (o : Option Ordering) → o ≡ None → is_some_and is_eq o ≡ true → ⊥
impossible None e h = cc
impossible (Some r) e h = cc

alike : (v w x : Value) → value_equal v w ≡ true → value_order v x ≡ value_order w x
alike null null x e = refl
alike null (boolean c) x e = cc
alike null (number n) x e = cc
alike null (text t) x e = cc
alike null container x e = cc
alike (boolean b) (boolean c) (boolean d) e = ap Some (bool_cmp_total.congr b c d ((Equal-is (bool_cmp b c)).0 e))
alike (number l) (number m) (number n) e = ap Some (number_cmp_total.congr l m n ((Equal-is (number_cmp l m)).0 e))
alike (text s) (text t) (text u) e = ap Some (nat_list_cmp_total.congr s t u ((Equal-is (slice_cmp nat_cmp s t)).0 e))
alike container w x e = absurd (impossible (value_order container w) (container_with_none w) e)
alike _ _ _ e = cc

equal_is : (o : Option Ordering) → Decides (is_some_and is_eq o) (o ≡ Some Equal)
equal_is None = (λ e. cc, λ e. cc)
equal_is (Some r) = (λ e. ap Some ((Equal-is r).0 e), λ e. ap (is_some_and is_eq) e)

value_order_laws : IsPartialOrder value_equal value_order
value_order_laws = record {
  antisymm = antisymmetric;
  trans = transitive;
  matches_eq = λ v w. equal_is (value_order v w);
  congr = alike;
}

reversed_equal : (o : Option Ordering) → is_some_and is_eq (option_map ordering_reverse o) ≡ is_some_and is_eq o
reversed_equal None = refl
reversed_equal (Some Less) = refl
reversed_equal (Some Equal) = refl
reversed_equal (Some Greater) = refl

value_equal_laws : IsPartialEquivalence value_equal
value_equal_laws = record {
  symm = λ v w. ap (is_some_and is_eq) (antisymmetric v w) ∙ reversed_equal (value_order w v);
  trans = λ v w x p q. ap (is_some_and is_eq) (alike v w x p) ∙ q;
}

pub literal_order_laws : IsPartialOrder is_same_literal literal_order
literal_order_laws = on_po literal_value value_order_laws

pub is_same_literal_laws : IsPartialEquivalence is_same_literal
is_same_literal_laws = on_per literal_value value_equal_laws

pub literal-same : (l m : Literal) → Decides (is_same_literal l m) (SameLiteral l m)
literal-same l m = equal_is (literal_order l m)
