-- How values of the standard extensions are written.
use Rattle.std.specs.Prelude.{ℕ, List, codes}
use Rattle.cedar_model.specs.Terms.{Text, Term, literal, text_literal, call, Terms, no_terms, one_term}
use Rattle.cedar_model.specs.Values.{Represented, extension_represented}

-- the argument `"text"`, alone
abbrev pub text_alone : Text → Terms
text_alone text = one_term (literal (text_literal text)) no_terms

-- the value of this type and key, written `function("text")`
abbrev pub constructed : Text → List ℕ → Text → Text → Represented
constructed type_name key function text = extension_represented type_name key function (text_alone text)

-- the first day of 1970, as a text
abbrev pub epoch : Text
epoch = codes "1970-01-01"

-- the datetime of this key, written `datetime("1970-01-01").offset(duration("text"))`
abbrev pub offset_from_epoch : List ℕ → Text → Represented
offset_from_epoch key text =
    extension_represented (codes "datetime") key (codes "offset")
    (one_term (call (codes "datetime") (text_alone epoch))
    (one_term (call (codes "duration") (text_alone text)) no_terms))
