use Rattle.std.proofs.Common.{◌∙◌, ◌≡◌, codes, false, map, Some, List, [], inl, inr, ap, refl, rules, subst, sym}
use Rattle.std.specs.Str.{bytes_eq}
use Rattle.clap.specs.Words.{Text, app_of, fault_of}
use Rattle.art_server.specs.ArtTable.Sizes.{IsConfig}
use Rattle.art_tools.specs.Faults.{Explains}
use Rattle.art_tools.specs.Options.{Given, HasOptions, load_options, numbers_fault, serve_options, size_options, sizes_given}
use Rattle.art_tools.specs.Ranges.{HasServe, IsLoad, IsServeGiven, load_given}
use Rattle.art_tools.specs.Settings.{art_index_app, load, run, serve, step, subcommand_given}
use Rattle.art_tools.specs.declared.settings.Settings.TheVariants.{Load, Run, Serve, Step}
use Rattle.art_tools.proofs.Asked.{all_right, asks_for_one, explained, fault_of_kind, given_by_words, met_name, name_met, no_fault, not_other, same_subcommand, setting_asked}
use Rattle.art_tools.proofs.Refused.{passed_up, refused_up}
use Rattle.art_tools.proofs.command_line.settings.Goals as goal

pub returns-in_err-matches-clause-refused : goal.returns-in_err-matches-clause-refused
returns-in_err-matches-clause-refused c =
    let words : List Text = map (λ s. s.now) c.args.words.now in
    refused_up c.from_residual-in_err-matches.result c.in_err-matches.field-0.0 _ (fault_of art_index_app words) _ _ c.from_residual-in_err-matches.ensures.1
    (fault_of_kind (app_of c.in_ok-program.program) words c.in_ok-program.ensures c.in_err-matches.field-0.0 c.in_err-matches.ensures.kinds)

pub returns-in_err-table_settings-in-run-clause-refused : goal.returns-in_err-table_settings-in-run-clause-refused
returns-in_err-table_settings-in-run-clause-refused c =
    let words : List Text = map (λ s. s.now) c.args.words.now in
    let program = app_of c.in_ok-program.program in
    let none = no_fault program words c.in_ok-program.ensures c.in_ok-matches.ensures.kinds in
    let same = given_by_words program words c.in_ok-program.ensures c.in_ok-matches.matches c.in-Some.given.now c.in_ok-matches.ensures.ok.2 c.in-Some.ensures.rows in
    let met = c.in-Some.ensures.name ∙ met_name c.in_ok-matches.matches words (same_subcommand program words c.in_ok-program.ensures _ c.in_ok-matches.ensures.ok.2) in
    let named : c.in-Some.name.now ≡ codes "run" = search rules in
    let given : subcommand_given words ≡ Some (codes "run") = sym met ∙ ap (λ t. Some t) named in
    let fault = c.in_err-table_settings-in-run.field-0.0 in
    passed_up c.from_residual-in_err-table_settings-in-run.result fault _ _ _ c.from_residual-in_err-table_settings-in-run.ensures.1
    (explained words (codes "run") run given refl fault none
    (subst (λ (g : Given). Explains (numbers_fault size_options g) (IsConfig (sizes_given g)) fault) same c.in_err-table_settings-in-run.ensures.refused))

pub returns-in-run-clause-asked : goal.returns-in-run-clause-asked
returns-in-run-clause-asked c =
    let words : List Text = map (λ s. s.now) c.args.words.now in
    let program = app_of c.in_ok-program.program in
    let none = no_fault program words c.in_ok-program.ensures c.in_ok-matches.ensures.kinds in
    let same = given_by_words program words c.in_ok-program.ensures c.in_ok-matches.matches c.in-Some.given.now c.in_ok-matches.ensures.ok.2 c.in-Some.ensures.rows in
    let met = c.in-Some.ensures.name ∙ met_name c.in_ok-matches.matches words (same_subcommand program words c.in_ok-program.ensures _ c.in_ok-matches.ensures.ok.2) in
    let named : c.in-Some.name.now ≡ codes "run" = search rules in
    let given : subcommand_given words ≡ Some (codes "run") = sym met ∙ ap (λ t. Some t) named in
    let x = c.in_ok-table_settings-in-run.field-0 in
    setting_asked words (codes "run") run given refl (Run x) (subst (λ (g : Given). HasOptions g x) same c.in_ok-table_settings-in-run.ensures.has)

pub returns-in-run-clause-refused : goal.returns-in-run-clause-refused
returns-in-run-clause-refused c =
    let words : List Text = map (λ s. s.now) c.args.words.now in
    let program = app_of c.in_ok-program.program in
    let none = no_fault program words c.in_ok-program.ensures c.in_ok-matches.ensures.kinds in
    let same = given_by_words program words c.in_ok-program.ensures c.in_ok-matches.matches c.in-Some.given.now c.in_ok-matches.ensures.ok.2 c.in-Some.ensures.rows in
    let met = c.in-Some.ensures.name ∙ met_name c.in_ok-matches.matches words (same_subcommand program words c.in_ok-program.ensures _ c.in_ok-matches.ensures.ok.2) in
    let named : c.in-Some.name.now ≡ codes "run" = search rules in
    let given : subcommand_given words ≡ Some (codes "run") = sym met ∙ ap (λ t. Some t) named in
    let right = subst (λ (g : Given). (numbers_fault size_options g ≡ []) × (IsConfig (sizes_given g))) same c.in_ok-table_settings-in-run.ensures.refused in
    all_right words (codes "run") run given refl none right.0 right.1

pub returns-in_err-table_settings-in-step-clause-refused : goal.returns-in_err-table_settings-in-step-clause-refused
returns-in_err-table_settings-in-step-clause-refused c =
    let words : List Text = map (λ s. s.now) c.args.words.now in
    let program = app_of c.in_ok-program.program in
    let none = no_fault program words c.in_ok-program.ensures c.in_ok-matches.ensures.kinds in
    let same = given_by_words program words c.in_ok-program.ensures c.in_ok-matches.matches c.in-Some.given.now c.in_ok-matches.ensures.ok.2 c.in-Some.ensures.rows in
    let met = c.in-Some.ensures.name ∙ met_name c.in_ok-matches.matches words (same_subcommand program words c.in_ok-program.ensures _ c.in_ok-matches.ensures.ok.2) in
    let named : c.in-Some.name.now ≡ codes "step" = search rules in
    let given : subcommand_given words ≡ Some (codes "step") = sym met ∙ ap (λ t. Some t) named in
    let fault = c.in_err-table_settings-in-step.field-0.0 in
    passed_up c.from_residual-in_err-table_settings-in-step.result fault _ _ _ c.from_residual-in_err-table_settings-in-step.ensures.1
    (explained words (codes "step") step given refl fault none
    (subst (λ (g : Given). Explains (numbers_fault size_options g) (IsConfig (sizes_given g)) fault) same c.in_err-table_settings-in-step.ensures.refused))

pub returns-in-step-clause-asked : goal.returns-in-step-clause-asked
returns-in-step-clause-asked c =
    let words : List Text = map (λ s. s.now) c.args.words.now in
    let program = app_of c.in_ok-program.program in
    let none = no_fault program words c.in_ok-program.ensures c.in_ok-matches.ensures.kinds in
    let same = given_by_words program words c.in_ok-program.ensures c.in_ok-matches.matches c.in-Some.given.now c.in_ok-matches.ensures.ok.2 c.in-Some.ensures.rows in
    let met = c.in-Some.ensures.name ∙ met_name c.in_ok-matches.matches words (same_subcommand program words c.in_ok-program.ensures _ c.in_ok-matches.ensures.ok.2) in
    let named : c.in-Some.name.now ≡ codes "step" = search rules in
    let given : subcommand_given words ≡ Some (codes "step") = sym met ∙ ap (λ t. Some t) named in
    let x = c.in_ok-table_settings-in-step.field-0 in
    setting_asked words (codes "step") step given refl (Step x) (subst (λ (g : Given). HasOptions g x) same c.in_ok-table_settings-in-step.ensures.has)

pub returns-in-step-clause-refused : goal.returns-in-step-clause-refused
returns-in-step-clause-refused c =
    let words : List Text = map (λ s. s.now) c.args.words.now in
    let program = app_of c.in_ok-program.program in
    let none = no_fault program words c.in_ok-program.ensures c.in_ok-matches.ensures.kinds in
    let same = given_by_words program words c.in_ok-program.ensures c.in_ok-matches.matches c.in-Some.given.now c.in_ok-matches.ensures.ok.2 c.in-Some.ensures.rows in
    let met = c.in-Some.ensures.name ∙ met_name c.in_ok-matches.matches words (same_subcommand program words c.in_ok-program.ensures _ c.in_ok-matches.ensures.ok.2) in
    let named : c.in-Some.name.now ≡ codes "step" = search rules in
    let given : subcommand_given words ≡ Some (codes "step") = sym met ∙ ap (λ t. Some t) named in
    let right = subst (λ (g : Given). (numbers_fault size_options g ≡ []) × (IsConfig (sizes_given g))) same c.in_ok-table_settings-in-step.ensures.refused in
    all_right words (codes "step") step given refl none right.0 right.1

pub returns-in_err-load_settings-in-load-clause-refused : goal.returns-in_err-load_settings-in-load-clause-refused
returns-in_err-load_settings-in-load-clause-refused c =
    let words : List Text = map (λ s. s.now) c.args.words.now in
    let program = app_of c.in_ok-program.program in
    let none = no_fault program words c.in_ok-program.ensures c.in_ok-matches.ensures.kinds in
    let same = given_by_words program words c.in_ok-program.ensures c.in_ok-matches.matches c.in-Some.given.now c.in_ok-matches.ensures.ok.2 c.in-Some.ensures.rows in
    let met = c.in-Some.ensures.name ∙ met_name c.in_ok-matches.matches words (same_subcommand program words c.in_ok-program.ensures _ c.in_ok-matches.ensures.ok.2) in
    let named : c.in-Some.name.now ≡ codes "load" = search rules in
    let given : subcommand_given words ≡ Some (codes "load") = sym met ∙ ap (λ t. Some t) named in
    let fault = c.in_err-load_settings-in-load.field-0.0 in
    passed_up c.from_residual-in_err-load_settings-in-load.result fault _ _ _ c.from_residual-in_err-load_settings-in-load.ensures.1
    (explained words (codes "load") load given refl fault none
    (subst (λ (g : Given). Explains (numbers_fault load_options g) (IsLoad (load_given g)) fault) same c.in_err-load_settings-in-load.ensures.refused))

pub returns-in-load-clause-asked : goal.returns-in-load-clause-asked
returns-in-load-clause-asked c =
    let words : List Text = map (λ s. s.now) c.args.words.now in
    let program = app_of c.in_ok-program.program in
    let none = no_fault program words c.in_ok-program.ensures c.in_ok-matches.ensures.kinds in
    let same = given_by_words program words c.in_ok-program.ensures c.in_ok-matches.matches c.in-Some.given.now c.in_ok-matches.ensures.ok.2 c.in-Some.ensures.rows in
    let met = c.in-Some.ensures.name ∙ met_name c.in_ok-matches.matches words (same_subcommand program words c.in_ok-program.ensures _ c.in_ok-matches.ensures.ok.2) in
    let named : c.in-Some.name.now ≡ codes "load" = search rules in
    let given : subcommand_given words ≡ Some (codes "load") = sym met ∙ ap (λ t. Some t) named in
    let x = c.in_ok-load_settings-in-load.field-0 in
    setting_asked words (codes "load") load given refl (Load x) (subst (λ (g : Given). x ≡ load_given g) same c.in_ok-load_settings-in-load.ensures.has)

pub returns-in-load-clause-refused : goal.returns-in-load-clause-refused
returns-in-load-clause-refused c =
    let words : List Text = map (λ s. s.now) c.args.words.now in
    let program = app_of c.in_ok-program.program in
    let none = no_fault program words c.in_ok-program.ensures c.in_ok-matches.ensures.kinds in
    let same = given_by_words program words c.in_ok-program.ensures c.in_ok-matches.matches c.in-Some.given.now c.in_ok-matches.ensures.ok.2 c.in-Some.ensures.rows in
    let met = c.in-Some.ensures.name ∙ met_name c.in_ok-matches.matches words (same_subcommand program words c.in_ok-program.ensures _ c.in_ok-matches.ensures.ok.2) in
    let named : c.in-Some.name.now ≡ codes "load" = search rules in
    let given : subcommand_given words ≡ Some (codes "load") = sym met ∙ ap (λ t. Some t) named in
    let right = subst (λ (g : Given). (numbers_fault load_options g ≡ []) × (IsLoad (load_given g))) same c.in_ok-load_settings-in-load.ensures.refused in
    all_right words (codes "load") load given refl none right.0 right.1

pub returns-in_err-serve_settings-in-serve-clause-refused : goal.returns-in_err-serve_settings-in-serve-clause-refused
returns-in_err-serve_settings-in-serve-clause-refused c =
    let words : List Text = map (λ s. s.now) c.args.words.now in
    let program = app_of c.in_ok-program.program in
    let none = no_fault program words c.in_ok-program.ensures c.in_ok-matches.ensures.kinds in
    let same = given_by_words program words c.in_ok-program.ensures c.in_ok-matches.matches c.in-Some.given.now c.in_ok-matches.ensures.ok.2 c.in-Some.ensures.rows in
    let met = c.in-Some.ensures.name ∙ met_name c.in_ok-matches.matches words (same_subcommand program words c.in_ok-program.ensures _ c.in_ok-matches.ensures.ok.2) in
    let named : c.in-Some.name.now ≡ codes "serve" = search rules in
    let given : subcommand_given words ≡ Some (codes "serve") = sym met ∙ ap (λ t. Some t) named in
    let fault = c.in_err-serve_settings-in-serve.field-0.0 in
    passed_up c.from_residual-in_err-serve_settings-in-serve.result fault _ _ _ c.from_residual-in_err-serve_settings-in-serve.ensures.1
    (explained words (codes "serve") serve given refl fault none
    (subst (λ (g : Given). Explains (numbers_fault serve_options g) (IsServeGiven g) fault) same c.in_err-serve_settings-in-serve.ensures.refused))

pub returns-in-serve-clause-asked : goal.returns-in-serve-clause-asked
returns-in-serve-clause-asked c =
    let words : List Text = map (λ s. s.now) c.args.words.now in
    let program = app_of c.in_ok-program.program in
    let none = no_fault program words c.in_ok-program.ensures c.in_ok-matches.ensures.kinds in
    let same = given_by_words program words c.in_ok-program.ensures c.in_ok-matches.matches c.in-Some.given.now c.in_ok-matches.ensures.ok.2 c.in-Some.ensures.rows in
    let met = c.in-Some.ensures.name ∙ met_name c.in_ok-matches.matches words (same_subcommand program words c.in_ok-program.ensures _ c.in_ok-matches.ensures.ok.2) in
    let named : c.in-Some.name.now ≡ codes "serve" = search rules in
    let given : subcommand_given words ≡ Some (codes "serve") = sym met ∙ ap (λ t. Some t) named in
    let x = c.in_ok-serve_settings-in-serve.field-0 in
    setting_asked words (codes "serve") serve given refl (Serve x) (subst (λ (g : Given). HasServe g x) same c.in_ok-serve_settings-in-serve.ensures.has)

pub returns-in-serve-clause-refused : goal.returns-in-serve-clause-refused
returns-in-serve-clause-refused c =
    let words : List Text = map (λ s. s.now) c.args.words.now in
    let program = app_of c.in_ok-program.program in
    let none = no_fault program words c.in_ok-program.ensures c.in_ok-matches.ensures.kinds in
    let same = given_by_words program words c.in_ok-program.ensures c.in_ok-matches.matches c.in-Some.given.now c.in_ok-matches.ensures.ok.2 c.in-Some.ensures.rows in
    let met = c.in-Some.ensures.name ∙ met_name c.in_ok-matches.matches words (same_subcommand program words c.in_ok-program.ensures _ c.in_ok-matches.ensures.ok.2) in
    let named : c.in-Some.name.now ≡ codes "serve" = search rules in
    let given : subcommand_given words ≡ Some (codes "serve") = sym met ∙ ap (λ t. Some t) named in
    let right = subst (λ (g : Given). (numbers_fault serve_options g ≡ []) × (IsServeGiven g)) same c.in_ok-serve_settings-in-serve.ensures.refused in
    all_right words (codes "serve") serve given refl none right.0 right.1

pub unreachable-requires-in_default-name : goal.unreachable-requires-in_default-name
unreachable-requires-in_default-name c =
    let words : List Text = map (λ s. s.now) c.args.words.now in
    let program = app_of c.in_ok-program.program in
    let none = no_fault program words c.in_ok-program.ensures c.in_ok-matches.ensures.kinds in
    let met = c.in-Some.ensures.name ∙ met_name c.in_ok-matches.matches words (same_subcommand program words c.in_ok-program.ensures _ c.in_ok-matches.ensures.ok.2) in
    let not_run : bytes_eq c.in-Some.name.now (codes "run") ≡ false = search rules in
    let not_step : bytes_eq c.in-Some.name.now (codes "step") ≡ false = search rules in
    let not_load : bytes_eq c.in-Some.name.now (codes "load") ≡ false = search rules in
    let not_serve : bytes_eq c.in-Some.name.now (codes "serve") ≡ false = search rules in
    let (name, given, one) = asks_for_one words none in
    let is = name_met _ _ (subcommand_given words) met given in
    elim one [
      | inl r ↦ not_other _ _ (is ∙ r) refl not_run
      | inr others ↦ elim others [
        | inl s ↦ not_other _ _ (is ∙ s) refl not_step
        | inr more ↦ elim more [
          | inl l ↦ not_other _ _ (is ∙ l) refl not_load
          | inr last ↦ elim last [
            | inl v ↦ not_other _ _ (is ∙ v) refl not_serve
            | inr no_more ↦ absurd no_more
          ]
        ]
      ]
    ]
