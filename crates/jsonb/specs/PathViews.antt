-- The trees of the path types.
use Rattle.std.specs.Prelude.{List, map}
use Rattle.std.specs.Cow.{cow_str_bytes}
use Rattle.jsonb_raw.specs.Documents.{raw_bytes}
use Rattle.jsonb.specs.declared.path.Expr.{Expr as CodeExpr, fold-Expr}
use Rattle.jsonb.specs.declared.path.Path.{Path as CodePath, fold-Path}
use Rattle.jsonb.specs.declared.path.Expr.TheOpen.{Path-F, Expr-F}
use Rattle.jsonb.specs.declared.path.JsonPath.{JsonPath}
use Rattle.jsonb.specs.declared.path.PathValue.{PathValue}
use Rattle.jsonb.specs.declared.path.PathValue.TheVariants as path_value
use Rattle.jsonb.specs.PathTree.{Literal, null, boolean, number, string, raw, Step, root, current, dot_wildcard, recursive_dot_wildcard, bracket_wildcard, dot_field, colon_field, object_field, array_indices, filter, whole_expression, Expression, paths, value, binary, unary, exists, steps_of}

abbrev pub literal_view : PathValue → Literal
literal_view path_value.Null = null
literal_view (path_value.Boolean b) = boolean b
literal_view (path_value.Number n) = number n
literal_view (path_value.String text) = string (cow_str_bytes text)
literal_view (path_value.Raw document) = raw (raw_bytes document)

-- One node, with the trees of the expressions and steps in it.
abbrev pub step_layer : Path-F Expression Step → Step
step_layer Path-F.Root = root
step_layer Path-F.Current = current
step_layer Path-F.DotWildcard = dot_wildcard
step_layer (Path-F.RecursiveDotWildcard found) = recursive_dot_wildcard found
step_layer Path-F.BracketWildcard = bracket_wildcard
step_layer (Path-F.DotField text) = dot_field (cow_str_bytes text)
step_layer (Path-F.ColonField text) = colon_field (cow_str_bytes text)
step_layer (Path-F.ObjectField text) = object_field (cow_str_bytes text)
step_layer (Path-F.ArrayIndices entries) = array_indices entries.items
step_layer (Path-F.FilterExpr e) = filter e.value
step_layer (Path-F.Expr e) = whole_expression e.value

abbrev pub expression_layer : Expr-F Expression Step → Expression
expression_layer (Expr-F.Paths steps) = paths (steps_of steps.items)
expression_layer (Expr-F.Value l) = value (literal_view l.value)
expression_layer (Expr-F.BinaryOp op left right) = binary op left.value right.value
expression_layer (Expr-F.UnaryOp op operand) = unary op operand.value
expression_layer (Expr-F.ExistsFunc steps) = exists (steps_of steps.items)

abbrev pub step_view : CodePath → Step
step_view = fold-Path Expression Step expression_layer step_layer

abbrev pub expression_view : CodeExpr → Expression
expression_view = fold-Expr Expression Step expression_layer step_layer

abbrev pub steps_view : List CodePath → List Step
steps_view steps = map step_view steps

abbrev pub path_view : JsonPath → List Step
path_view p = steps_view p.paths.items
