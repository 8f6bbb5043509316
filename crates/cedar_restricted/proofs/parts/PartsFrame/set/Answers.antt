use Rattle.std.proofs.Common.{refl, sym, ap, subst, length, ℕ}
use Rattle.cedar_model.specs.Terms.{set_of}
use Rattle.cedar_expressions.specs.View.{terms_view}
use Rattle.cedar_values.specs.Sound.{whats}
use Rattle.cedar_extensions.specs.Extensions.{extensions_view, calls_of}
use Rattle.cedar_restricted.specs.declared.whole.Whole.TheVariants as wholes
use Rattle.cedar_restricted.specs.declared.answers.Answers.TheVariants as answereds
use Rattle.cedar_restricted.specs.Parts.{all_values}
use Rattle.cedar_restricted.specs.Elements.{AreOfFirst, ElementsStand, FirstStand, SetLeads}
use Rattle.cedar_restricted.specs.Laws.{begins}
use Rattle.cedar_restricted.proofs.parts.PartsFrame.set.Goals as goal

pub returns-in-Ok-clause-begins : goal.returns-in-Ok-clause-begins
returns-in-Ok-clause-begins g c =
    begins (extensions_view c.args.extensions.now) (calls_of c.args.extensions.now)
    wholes.Set c.in-Ok.parts (answereds.Values c.new.result)
    c.args.loc (set_of (terms_view c.args.parts.now.value.items))
    c.read.result (ap (λ v. set_of (terms_view v.items)) c.in-Ok.ensures.cases) tt
    (ap (λ l. all_values (whats l)) (sym c.new.ensures.items), ap length c.new.ensures.items) c.read.ensures.reads

pub returns-in-Ok-clause-elements : goal.returns-in-Ok-clause-elements
returns-in-Ok-clause-elements g c =
    let parts = c.in-Ok.parts in
    let none : (n : ℕ) → FirstStand n parts.value.items (answereds.Values c.new.result) =
    λ n. subst (AreOfFirst (ElementsStand n) parts.value.items) (sym c.new.ensures.items) tt in
    subst (λ v. SetLeads v.items c.read.result) c.in-Ok.ensures.cases (c.read.ensures.elements refl none)
