-- What a step says of the answer.
use Rattle.std.proofs.Common.{◌≡◌, ◌∙◌, refl, sym, ap, ℕ, Bool, true, false, if◌then◌else◌, List, [], ◌∷◌}
use Rattle.std.specs.List.{filter}
use Rattle.swift_base.specs.declared.plugins.Plugin.{Plugin}
use Rattle.plugin_messages.specs.declared.request.Request.{Request}
use Rattle.macro_decls.specs.declared.table.MacroDecl.{MacroDecl}
use Rattle.expansion_model.specs.Answer.{answer_of, are_too_many, by_messages, lacks_outcome}
use Rattle.expansion_model.specs.Buffers.{BufferSeen}
use Rattle.expansion_model.specs.Steps.{Done, IsStep, by_missing, step_of}
use Rattle.expansion_model.specs.Table.{Look, is_missing}
use Rattle.expansion_model.specs.Visit.{Found, visit}
use Rattle.expansion_model.specs.declared.answer.Answer.{Answer}
use Rattle.expansion_model.specs.declared.answer.Answer.TheVariants as answer
use Rattle.expansion_model.specs.declared.answer.LimitKind.TheVariants as limit
use Rattle.expansion_model.proofs.Walks.{none_filtered, some_filtered}

module _ (macros : List MacroDecl) (plugins : List Plugin) (table : Look) (source : BufferSeen) where
  abbrev found : Found
  found = visit macros plugins table source

  abbrev text : List ℕ
  text = source.outline.text

  abbrev by_outcomes : Bool → Answer
  by_outcomes lacks = if lacks then answer.Limit limit.Bytes else by_messages text found found.messages

  -- by the requests that have no outcome
  missing_tells : are_too_many found ≡ false → (missing : List Request) → filter (is_missing table) found.asked ≡ missing → IsStep macros plugins table source (by_missing text found missing)
  unfolding answer_of
  missing_tells few [] none_ =
      sym (ap (λ b. if b then answer.Limit limit.Requests else by_outcomes (lacks_outcome table found)) few ∙ ap by_outcomes (none_filtered (is_missing table) found.asked none_))
  missing_tells few (first ∷ others) some = record {
    are = sym some;
    answers = ap (λ b. if b then answer.Limit limit.Requests else by_outcomes (lacks_outcome table found)) few ∙ ap by_outcomes (some_filtered (is_missing table) found.asked first others some);
  }

  many_tells : (b : Bool) → are_too_many found ≡ b
      → IsStep macros plugins table source (if b then Done (answer.Limit limit.Requests) else by_missing text found (filter (is_missing table) found.asked))
  unfolding answer_of
  many_tells true many = sym (ap (λ b. if b then answer.Limit limit.Requests else by_outcomes (lacks_outcome table found)) many)
  many_tells false few = missing_tells few (filter (is_missing table) found.asked) refl

  pub step_tells : IsStep macros plugins table source (step_of macros plugins table source)
  unfolding step_of
  step_tells = many_tells (are_too_many found) refl
