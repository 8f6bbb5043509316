use Rattle.cedar_cli.proofs.translations.translate_to_json.Goals as goal

pub returns-clause-translated : goal.returns-clause-translated
returns-clause-translated c = record {
  parsed = c.in_ok-parsed.parsed;
  policies_are = c.in_ok-parsed.ensures.read;
  line_is = c.in_ok-line.ensures;
}
