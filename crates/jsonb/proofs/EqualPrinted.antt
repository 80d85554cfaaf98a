-- A JSON path that was read equals itself, and what its printed text reads as.
use Rattle.jsonb.proofs.Common.{◌≡◌, ℕ, List, [], ◌∷◌, Bool, true, false, Some, pos, negsuc, zero, suc, refl, ap, inl, inr, map, IfSome, IsSomeAnd, MatchBool, tied_itself, bool_cmp_total, nat_list_cmp_total, Number, int64, uint64, number_from, number_cmp, number_cmp_total, Int64, UInt64, SameLiteral, SameStepsBut, SamePath, SameStep, SameExpression, json_path, settled_literal, SameButVariants, steps_of, joins, path_text, Literal, boolean, number, string, Step, filter, whole_expression, Steps, no_steps, step, Expression, paths, value, binary, unary, exists, path-symmetric, path-transitive}
use Rattle.std.proofs.Common.{Equal}
use Rattle.jsonb.proofs.SettledPaths.{settled_step, settled_steps, settled, path_itself}
use Rattle.jsonb.specs.PathTree.{null}
use Rattle.jsonb.proofs.GrammarShape.{if_read}
use Rattle.jsonb.proofs.PathReadsBack.{path-text}
use Rattle.jsonb.proofs.PathShape.{IsLiteral, IsInner, AreInner, IsBeginning, IsOperand, is_signed, IsPathStep, ArePathSteps, IsExistsPath, IsCondition, IsPath}

number_itself : (n : Number) → number_cmp n n ≡ Equal
number_itself n = tied_itself number_cmp_total n

-- settling changes no value
literal-settled : (l : Literal) → IsLiteral l → SameLiteral l (settled_literal l)
literal-settled null h = refl
literal-settled (boolean b) h = ap Some (tied_itself bool_cmp_total b)
literal-settled (number (UInt64 n)) h = ap Some (number_itself (number_from uint64 (pos n) 0))
literal-settled (number (Int64 (pos zero))) h = refl
literal-settled (number (Int64 (pos (suc n)))) h = ap Some (number_itself (number_from int64 (pos (suc n)) 0))
literal-settled (number (Int64 (negsuc n))) h = ap Some (number_itself (number_from int64 (negsuc n) 0))
literal-settled (string text) h = ap Some (tied_itself nat_list_cmp_total text)
literal-settled _ h = absurd h

inner-settled : (s : Step) → IsInner s → SameStep s (settled_step s)
inner-settled (filter e) h = absurd h
inner-settled (whole_expression e) h = absurd h
inner-settled s h = refl

inners-settled : (ss : Steps) → AreInner ss → SameStepsBut SameLiteral ss (settled_steps ss)
inners-settled no_steps h = tt
inners-settled (step s ss) h = (inner-settled s h.0, inners-settled ss h.1)

beginning-settled : (is_in_filter : Bool) (s : Step) → IsBeginning is_in_filter s → SameStep s (settled_step s)
beginning-settled f (filter e) h = absurd h
beginning-settled f (whole_expression e) h = absurd h
beginning-settled f s h = refl

operand-settled : (is_in_filter : Bool) (e : Expression) → IsOperand is_in_filter e → SameExpression e (settled e)
operand-settled f (paths no_steps) h = absurd h
operand-settled f (paths (step s ss)) h = (beginning-settled f s h.0, inners-settled ss h.1)
operand-settled f (value l) h = literal-settled l h
operand-settled f e h = absurd h

mutual
  step-settled : (s : Step) → IsPathStep s → SameStep s (settled_step s)
  step-settled (filter e) h = condition-settled true e h
  step-settled (whole_expression e) h = absurd h
  step-settled s h = refl

  steps-settled : (ss : Steps) → ArePathSteps ss → SameStepsBut SameLiteral ss (settled_steps ss)
  steps-settled no_steps h = tt
  steps-settled (step s ss) h = (step-settled s h.0, steps-settled ss h.1)

  exists-settled : (ss : Steps) → IsExistsPath ss → SameStepsBut SameLiteral ss (settled_steps ss)
  exists-settled no_steps h = absurd h
  exists-settled (step s ss) h = (beginning-settled true s h.0, steps-settled ss h.1)

  condition-settled : (is_in_filter : Bool) (e : Expression) → IsCondition is_in_filter e → SameExpression e (settled e)
  condition-settled f (binary op left right) h =
      elim (joins op) as (λ b. MatchBool b (IsCondition f left × IsCondition f right) ((is_signed left ≡ false) × IsOperand f left × IsOperand f right)
      → SameExpression (binary op left right) (settled (binary op left right))) [
        | true ↦ λ both. (refl, condition-settled f left both.0, condition-settled f right both.1)
        | false ↦ λ sides. (refl, operand-settled f left sides.1, operand-settled f right sides.2)
      ] h
  condition-settled f (unary op operand) h = (refl, operand-settled f operand h)
  condition-settled f (exists ss) h = exists-settled ss h
  condition-settled f e h = absurd h

each-settled : (p : List Step) → ArePathSteps (steps_of p) → SamePath p (map settled_step p)
each-settled [] h = tt
each-settled (s ∷ p) h = (step-settled s h.0, each-settled p h.1)

path-settled : (p : List Step) → IsPath p → SamePath p (map settled_step p)
path-settled p (inl (e, is, condition)) = rw is (condition-settled false e condition, tt)
path-settled p (inr (inl (ss, is, each))) = rw is (refl, each-settled ss each)
path-settled p (inr (inr each)) = each-settled p each

pub read_equals_itself : (text : List ℕ) → IfSome (json_path text) (λ p. SamePath p p)
read_equals_itself text = if_read (λ p. SamePath p p) (λ p shape.
    let same = path-settled p shape in path-transitive p (map settled_step p) p same (path-symmetric p (map settled_step p) same)) text

-- the printed text reads, as a path of the same parts
abbrev pub PrintsAsEqual : List Step → Type 0
PrintsAsEqual p = IsSomeAnd (json_path (path_text p)) (SamePath p)

pub read_prints_as_equal : (text : List ℕ) → IfSome (json_path text) PrintsAsEqual
read_prints_as_equal text = if_read PrintsAsEqual (λ p shape. rw (path-text p shape) (path-settled p shape)) text

-- the printed text reads, as a path that is the same except for variants
abbrev ReadsBack : List Step → Type 0
ReadsBack p = IsSomeAnd (json_path (path_text p)) (SameButVariants p)

pub reads_back_if_read : (text : List ℕ) → IfSome (json_path text) ReadsBack
reads_back_if_read text = if_read ReadsBack (λ p shape. rw (path-text p shape) (path_itself p)) text
