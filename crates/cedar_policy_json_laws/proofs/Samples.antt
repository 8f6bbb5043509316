-- The sample policies can be read.
use Rattle.std.proofs.Common.{false, refl}
use Rattle.cedar_text_lexer.specs.Words.{begins_reserved}
use Rattle.cedar_names.specs.Equality.{variable_eq}
use Rattle.cedar_functions.specs.Functions.{any}
use Rattle.cedar_policy_json_laws.specs.Policies.{IsReadablePolicy}
use Rattle.cedar_policy_json_laws.specs.Samples.{sample_policy, ConditionsAreReadable, SetIsReadable, TemplateIsReadable, PolicyIsReadable}

pub template_is_readable : TemplateIsReadable
unfolding variable_eq begins_reserved
template_is_readable = record {
  principal_stands = refl;
  action_stands = (refl, (refl, tt));
  resource_stands = (refl, refl);
  has_condition = λ e. tt;
  under_words = (refl, tt);
  in_order = refl;
}

pub policy_is_readable : PolicyIsReadable
unfolding variable_eq begins_reserved
policy_is_readable = record {
  principal_stands = refl;
  action_stands = (refl, (refl, tt));
  resource_stands = (refl, refl);
  has_condition = λ e. tt;
  under_words = (refl, tt);
  in_order = refl;
}

sample_is_readable : IsReadablePolicy false any 2 sample_policy
unfolding variable_eq begins_reserved
sample_is_readable = record {
  principal_stands = tt;
  action_stands = (refl, (refl, tt));
  resource_stands = (refl, refl);
  has_condition = λ e. tt;
  under_words = (refl, tt);
  in_order = refl;
}

pub set_is_readable : SetIsReadable
unfolding begins_reserved
set_is_readable = record {
  policies_are = (refl, sample_is_readable, tt);
  templates_are = (refl, template_is_readable, tt);
  links_are = (refl, tt, tt);
  links_make = refl;
  templates_apart = refl;
  policies_apart = refl;
}

pub conditions_are_readable : ConditionsAreReadable
unfolding variable_eq begins_reserved
conditions_are_readable = record {
  principal_reads = λ e. tt;
  action_reads = λ e. (tt, (refl, (refl, tt)));
  resource_reads = λ e. ((tt, refl), (tt, refl));
  has_condition = λ e. tt;
  under_words = (refl, tt);
  in_order = refl;
}
