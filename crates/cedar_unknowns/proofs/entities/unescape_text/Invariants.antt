use Rattle.std.proofs.Common.{◌≡◌, ◌++◌, false, string_bytes}
use Rattle.cedar_unknowns.specs.Quoted.{unescaped}
use Rattle.cedar_unknowns.proofs.entities.unescape_text.Given as goal

abbrev pub invariant-characters : goal.invariant-characters
invariant-characters l =
    string_bytes l.plain ++ unescaped l.is_escaped l.character-iterator.rest.now ≡ unescaped false l.fn.text
