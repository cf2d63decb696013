use Rattle.std.proofs.Common.{ℕ, List, map, inl, ap, ◌∙◌, Bor}
use Rattle.std.specs.String.{string_bytes}
use Rattle.std.specs.Vec.Iter.{into_iter_items}
use Rattle.std.proofs.lemmas.Result.{IfOk-weaker, IfErr-weaker}
use Rattle.evac.proofs.CommandWords.{command_words, command_line}
use Rattle.evac.proofs.program.program_main.Goals as goal

pub returns-in-Ok-words-clause-no_command : goal.returns-in-Ok-words-clause-no_command
returns-in-Ok-words-clause-no_command g c =
    let are = ap (λ (l : List (Bor (List ℕ))). map (λ (w : Bor (List ℕ)). w.now) l) c.as_slice-in-Ok-words.ensures.value ∙ c.in-Ok-words.ensures in
    IfOk-weaker c.args.arguments _ _
    (λ texts same other.
    inl
    (c.replay_main-in-Ok-words.ensures.usage.1
    (λ is. other (command_line (λ t. string_bytes t) (into_iter_items texts) c.as_slice.result.now c.as_slice-in-Ok-words.result.now (c.as_slice.ensures.value ∙ same) are is))))
    c.in-Ok.ensures.texts

pub returns-in-Ok-words-clause-exactly_refused : goal.returns-in-Ok-words-clause-exactly_refused
returns-in-Ok-words-clause-exactly_refused g c =
    let are = ap (λ (l : List (Bor (List ℕ))). map (λ (w : Bor (List ℕ)). w.now) l) c.as_slice-in-Ok-words.ensures.value ∙ c.in-Ok-words.ensures in
    IfOk-weaker c.args.arguments _ _
    (λ texts same line.
    c.replay_main-in-Ok-words.ensures.exactly_refused
    (command_words (λ t. string_bytes t) (into_iter_items texts) c.as_slice.result.now c.as_slice-in-Ok-words.result.now (c.as_slice.ensures.value ∙ same) are line))
    c.in-Ok.ensures.texts

pub returns-in-Ok-words-clause-command : goal.returns-in-Ok-words-clause-command
returns-in-Ok-words-clause-command g c =
    let are = ap (λ (l : List (Bor (List ℕ))). map (λ (w : Bor (List ℕ)). w.now) l) c.as_slice-in-Ok-words.ensures.value ∙ c.in-Ok-words.ensures in
    IfOk-weaker c.args.arguments _ _
    (λ texts same line two.
    c.replay_main-in-Ok-words.ensures.usage.0 two
    (command_words (λ t. string_bytes t) (into_iter_items texts) c.as_slice.result.now c.as_slice-in-Ok-words.result.now (c.as_slice.ensures.value ∙ same) are line))
    c.in-Ok.ensures.texts

pub returns-in-Ok-words-clause-no_text : goal.returns-in-Ok-words-clause-no_text
returns-in-Ok-words-clause-no_text g c =
    IfErr-weaker c.args.arguments _ _ (λ e refused invalid. let is = refused invalid in absurd (cc)) c.in-Ok.ensures.not_text

pub returns-in-Ok-words-clause-no_arguments : goal.returns-in-Ok-words-clause-no_arguments
returns-in-Ok-words-clause-no_arguments g c =
    IfErr-weaker c.args.arguments _ _ (λ e refused other. let is = refused other in absurd (cc)) c.in-Ok.ensures.memory
