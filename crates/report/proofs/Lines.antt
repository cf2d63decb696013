-- The text of a report's lines is that of its sections.
use Rattle.std.proofs.Common.{◌≡◌, ℕ, ◌+◌, List, [], ◌∷◌, ◌++◌, map, codes, append_assoc, append-nil, refl, sym, ap, ◌∙◌}
use Rattle.std.specs.List.{flat_map}
use Rattle.std.proofs.lemmas.Grind.{flat_map-append}
use Rattle.evac_model.specs.declared.device_journal.DeviceAction.{DeviceAction}
use Rattle.evac_model.specs.declared.device_journal.Notice.{Notice}
use Rattle.evac_model.specs.declared.entry.Entry.{Entry}
use Rattle.evac_model.specs.declared.host.HostRun.{HostRun}
use Rattle.evac_model.specs.declared.space.SpaceAction.{SpaceAction}
use Rattle.evac_model.specs.declared.tried.Tried.{Tried}
use Rattle.report.specs.declared.line.Line.{Line}
use Rattle.report.specs.declared.line.Line.TheVariants as lines
use Rattle.report.specs.declared.report.FinalPage.{FinalPage}
use Rattle.report.specs.declared.report.Report.{Report}
use Rattle.report.specs.ReportText.{line, entry_text, host_text, act_text, notice_text, plugged_text, page_text, line_text, run_lines, space_lines, device_lines, report_text}
use Rattle.report.specs.Sections.{run_text, space_text, device_text, sections_text}

-- the text of lines behind other lines
texts : (xs ys : List Line) → flat_map line_text (xs ++ ys) ≡ flat_map line_text xs ++ flat_map line_text ys
texts xs ys = flat_map-append line_text xs ys

-- the text of lines made one by one
texts_of_each : {X : Type 0} (make : X → Line) (xs : List X) → flat_map line_text (map make xs) ≡ flat_map (λ x. line_text (make x)) xs
texts_of_each make [] = refl
texts_of_each make (x ∷ xs) = ap (λ (t : List ℕ). line_text (make x) ++ t) (texts_of_each make xs)

both : (a b c d : List ℕ) → a ≡ c → b ≡ d → a ++ b ≡ c ++ d
both a b c d p q = ap (λ (t : List ℕ). t ++ b) p ∙ ap (λ (t : List ℕ). c ++ t) q

-- a command, and the blocks that it tried
text_of_run : (r : HostRun) → flat_map line_text (run_lines r) ≡ run_text r
text_of_run r = ap (λ (t : List ℕ). host_text r.line.no r.command r.line.result ++ t) (texts_of_each (λ (t : Tried). lines.Tried t) r.line.tried)

text_of_runs : (runs : List HostRun) → flat_map line_text (flat_map run_lines runs) ≡ flat_map run_text runs
text_of_runs [] = refl
text_of_runs (r ∷ runs) = texts (run_lines r) (flat_map run_lines runs) ∙ both _ _ _ _ (text_of_run r) (text_of_runs runs)

text_of_space : (number : ℕ) (actions : List SpaceAction) → flat_map line_text (space_lines number actions) ≡ space_text number actions
text_of_space number [] = refl
text_of_space number (a ∷ actions) = ap (λ (t : List ℕ). line_text (lines.Space number a) ++ t) (text_of_space (number + 1) actions)

text_of_device : (number : ℕ) (actions : List DeviceAction) → flat_map line_text (device_lines number actions) ≡ device_text number actions
text_of_device number [] = refl
text_of_device number (a ∷ actions) =
    ap (λ (t : List ℕ). act_text number a.act ++ t)
    (texts (map (λ (x : Notice). lines.Notice number x) a.notices) (device_lines (number + 1) actions)
    ∙ (ap (λ (t : List ℕ). t ++ flat_map line_text (device_lines (number + 1) actions)) (texts_of_each (λ (x : Notice). lines.Notice number x) a.notices)
    ∙ ap (λ (t : List ℕ). flat_map (notice_text number) a.notices ++ t) (text_of_device (number + 1) actions)))
    ∙ sym (append_assoc (act_text number a.act) (flat_map (notice_text number) a.notices) (device_text (number + 1) actions))

-- the last lines
text_of_end : (r : Report) → flat_map line_text (lines.Plugged r.plugged ∷ (map (λ p. lines.Page p) r.pages ++ lines.End ∷ [])) ≡ plugged_text r.plugged ++ (flat_map page_text r.pages ++ line (codes "end") [])
text_of_end r = ap (λ (t : List ℕ). plugged_text r.plugged ++ t)
    (texts (map (λ (p : FinalPage). lines.Page p) r.pages) (lines.End ∷ [])
    ∙ (ap (λ (t : List ℕ). t ++ flat_map line_text (lines.End ∷ [])) (texts_of_each (λ (p : FinalPage). lines.Page p) r.pages)
    ∙ ap (λ (t : List ℕ). flat_map page_text r.pages ++ t) (append-nil (line (codes "end") []))))

module _ (r : Report) where
  abbrev calls : List Line
  calls = map (λ (e : Entry). lines.Call e) r.history

  abbrev commands : List Line
  commands = flat_map run_lines r.host

  abbrev space : List Line
  space = space_lines 0 r.space_journal

  abbrev device : List Line
  device = device_lines 0 r.device_journal

  abbrev rest : List Line
  rest = lines.Plugged r.plugged ∷ (map (λ (p : FinalPage). lines.Page p) r.pages ++ lines.End ∷ [])

  abbrev front : List ℕ
  front = flat_map entry_text r.history ++ flat_map run_text r.host ++ space_text 0 r.space_journal ++ device_text 0 r.device_journal

  pub text_by_sections : report_text r ≡ sections_text r
  text_by_sections =
      texts (calls ++ commands ++ space ++ device) rest
      ∙ (both _ _ _ _
      (texts (calls ++ commands ++ space) device
      ∙ both _ _ _ _
      (texts (calls ++ commands) space
      ∙ both _ _ _ _
      (texts calls commands
      ∙ both _ _ _ _ (texts_of_each (λ (e : Entry). lines.Call e) r.history) (text_of_runs r.host))
      (text_of_space 0 r.space_journal))
      (text_of_device 0 r.device_journal))
      (text_of_end r)
      ∙ (sym (append_assoc front (plugged_text r.plugged) (flat_map page_text r.pages ++ line (codes "end") []))
      ∙ sym (append_assoc (front ++ plugged_text r.plugged) (flat_map page_text r.pages) (line (codes "end") []))))
