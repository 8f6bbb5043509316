use Rattle.std.specs.Prelude.{option_map}
use Rattle.std.specs.Rc.{rc_str_bytes}
use Rattle.std.specs.Cmp.Lexicographic.{bytes_decides}
use Rattle.std.proofs.lemmas.Bool.Decides.{Decides-at, Decides-and}
use Rattle.cedar_names.specs.Leaves.{literal_view, type_view, pattern_view}
use Rattle.cedar_names.specs.EqualityLaws.{literal_eq-decides, type_eq-decides, annotation_eq-decides, pattern_eq-decides}
use Rattle.cedar_names.proofs.Derived.{literals_equal, types_equal, annotations_equal, patterns_equal}
use Rattle.cedar_names.proofs.laws.leaves_are_equal_by_view.Goals as goal

pub returns-clause-literals : goal.returns-clause-literals
returns-clause-literals c =
    λ a b. Decides-at _ _ (literals_equal a b) (literal_eq-decides (literal_view a) (literal_view b))

pub returns-clause-types : goal.returns-clause-types
returns-clause-types c = λ a b. Decides-at _ _ (types_equal a b) (type_eq-decides (type_view a) (type_view b))

pub returns-clause-unknowns : goal.returns-clause-unknowns
returns-clause-unknowns c =
    λ a b. Decides-and _ _ (bytes_decides (rc_str_bytes a.name) (rc_str_bytes b.name)) (Decides-at _ _ (annotations_equal a.type_annotation b.type_annotation) (annotation_eq-decides (option_map type_view a.type_annotation) (option_map type_view b.type_annotation)))

pub returns-clause-patterns : goal.returns-clause-patterns
returns-clause-patterns c =
    λ a b. Decides-at _ _ (patterns_equal a.elems.items b.elems.items) (pattern_eq-decides (pattern_view a) (pattern_view b))
