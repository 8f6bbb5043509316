-- Names, patterns and attributes read back.
use Rattle.std.proofs.Common.{◌≡◌, ℕ, ◌+◌, Bool, true, List, [], ◌∷◌, ◌++◌, map, Ok, refl, sym, ap, ◌∙◌}
use Rattle.std.specs.Prelude.{if◌then◌else◌}
use Rattle.std.specs.Char.{encode_utf8}
use Rattle.std.specs.Str.{chars, all_scalars}
use Rattle.std.proofs.lemmas.Str.{chars-encodes}
use Rattle.json.specs.Json.{string}
use Rattle.json.specs.Value.{items_of}
use Rattle.cedar_model.specs.Terms.{Text, PatternPart, character, wildcard}
use Rattle.cedar_policy_json_reader.specs.declared.errors.RefusalReason.TheVariants as reasons
use Rattle.cedar_policy_json_reader.specs.Leaves.{name_said, parts_said, part_said, texts_said}
use Rattle.cedar_policy_json_reader.specs.Paths.{at_index}
use Rattle.cedar_policy_json_reader.specs.Refusals.{refused, under, before, all_before}
use Rattle.cedar_policy_json_reader.specs.Words.{is_name}
use Rattle.cedar_policy_json_writer.specs.Expressions.{pattern_part_json}
use Rattle.cedar_policy_json_laws.specs.Back.{IsReadablePattern}

pub name_back : (t : Text) → is_name t ≡ true → name_said (string t) ≡ Ok t
name_back t h = ap (λ (b : Bool). if b then Ok t else refused reasons.NotAName) h

pub texts_back : (n : ℕ) (ts : List Text) → texts_said n (items_of (map string ts)) ≡ Ok ts
texts_back n [] = refl
texts_back n (t ∷ ts) = ap (before (Ok t)) (texts_back (n + 1) ts)

append_none : (bs : Text) → bs ++ [] ≡ bs
append_none [] = refl
append_none (b ∷ bs) = ap (λ (cs : Text). b ∷ cs) (append_none bs)

character_back : (c : ℕ) → all_scalars (c ∷ []) ≡ true → part_said (pattern_part_json (character c)) ≡ Ok (character c ∷ [])
character_back c h =
    let one : chars (encode_utf8 c) ≡ c ∷ [] = sym (ap chars (append_none (encode_utf8 c))) ∙ chars-encodes (c ∷ []) h in
    ap (λ (cs : List ℕ). Ok (map character cs)) one

pub pattern_back : (n : ℕ) (ps : List PatternPart) → IsReadablePattern ps → parts_said n (items_of (map pattern_part_json ps)) ≡ Ok ps
pattern_back n [] h = refl
pattern_back n (character c ∷ ps) h = λ i. all_before (under (at_index n) (character_back c h.0 i)) (pattern_back (n + 1) ps h.1 i)
pattern_back n (wildcard ∷ ps) h = ap (all_before (Ok (wildcard ∷ []))) (pattern_back (n + 1) ps h)
