-- By the laws of constructors, and of functions of a key and of two.
use Rattle.cedar_model.specs.Terms.{bool_literal}
use Rattle.cedar_model.specs.Failures.{answers_bool, function_has_failed}
use Rattle.cedar_ip.specs.Keys.{key_of, is_in_range}
use Rattle.cedar_extension_values.proofs.Literals.{literal_faithful}
use Rattle.cedar_ip_functions.specs.Ranges.{ipaddr_name, ip_name, not_a_range}
use Rattle.cedar_ip_functions.proofs.laws.are_faithful.Goals as goal

pub returns-clause-ranges : goal.returns-clause-ranges
returns-clause-ranges c = λ X ans has. c.constructors_are_faithful.ensures.faithful X ans ipaddr_name ip_name
    (function_has_failed ipaddr_name not_a_range) key_of has

pub returns-clause-questions : goal.returns-clause-questions
returns-clause-questions c = λ X ans such. c.functions_of_a_key.ensures.faithful X ans ipaddr_name
    (λ k. answers_bool (such k)) (λ k. literal_faithful X ans (bool_literal (such k)))

pub returns-clause-in_range : goal.returns-clause-in_range
returns-clause-in_range c = λ X ans. c.functions_of_two_keys.ensures.faithful X ans ipaddr_name ipaddr_name
    (λ k l. answers_bool (is_in_range k l)) (λ k l. literal_faithful X ans (bool_literal (is_in_range k l)))
