-- What a run leaves whose owners and host have ended: a legal history, each script call once, the pages after
-- it, and their frames; each command of the host with its line, and what the driver and the device did.
use Rattle.std.proofs.Common.{◌≡◌, ◌≢◌, ℕ, cond, Bool, true, eq-eqb, ne_eqb, zero, suc, ◌+◌, ◌<◌, ◌≤◌, List, [], ◌++◌, length, map, get_or, sym, refl, ap, ◌∙◌, subst, arith, Option, Some, None}
use Rattle.std.specs.Option.{option_map}
use Rattle.std.specs.List.{slice_get, range_with_len, AllByRecursion}
use Rattle.std.specs.List.Sorted.{IsStrictlyIncreasing}
use Rattle.std.proofs.lemmas.List.{get_or_past}
use Rattle.std.proofs.lemmas.Option.{same_Some, none-some, slice_get-map}
use mathlib.Core.Logic.{dite}
use native.Mathlib.Decide.{dec_le}
use Rattle.evac_model.specs.declared.device_journal.DeviceAction.{DeviceAction}
use Rattle.evac_model.specs.declared.entry.Entry.{Entry}
use Rattle.evac_model.specs.declared.host.HostRun.{HostRun}
use Rattle.evac_model.specs.declared.names.BlockNo.{BlockNo}
use Rattle.evac_model.specs.declared.scenario.Scenario.{Scenario}
use Rattle.evac_model.specs.declared.space.SpaceAction.{SpaceAction}
use Rattle.evac_model.specs.Page.{PlainPage, Page}
use Rattle.evac_model.specs.Counts.{first_of_calls}
use Rattle.evac_model.specs.DeviceJournal.{AreAnswered}
use Rattle.evac_model.specs.HostCommands.{host_runs}
use Rattle.evac_model.specs.Pairing.{actions_of, AreOutForPages, AreUnplugged}
use Rattle.evac_model.specs.ScenarioGrammar.{online_of}
use Rattle.evac_model.specs.Scenarios.{IsRunnable, IsOwnerCall}
use Rattle.evac_model.specs.SpaceJournal.{SpaceState, out_for, is_frame_in, space_after, space_at_start}
use Rattle.evac_model.specs.State.{PlainState, page_at}
use Rattle.evac_model.specs.History.{after_entries}
use Rattle.evac_model.specs.Scripts.{script_of, numbered_call}
use Rattle.evac_words.specs.Word.{mapped_bit, frame_of, pins_of}
use Rattle.core_state.specs.declared.opening.Opening.{Opening}
use Rattle.core_state.specs.declared.view.View.{View}
use Rattle.core_state.specs.Words.{entry_word_of, cells_of_frame, kind_in}
use Rattle.core_state.specs.Pages.{entry_with, page_after, FreeShows}
use Rattle.core_state.specs.CoreOpens.{start_pages}
use Rattle.core_state.specs.Histories.{IsOpeningState}
use Rattle.core_state.proofs.Starts.{length-start_pages}
use Rattle.core_state.proofs.Entries.{page_after-quiet}
use Rattle.core_state.proofs.Histories.{from_opening, histories_are_legal, words_show_the_history}
use Rattle.host_work.specs.Commands.{AreDoneBy}
use Rattle.host_work.specs.FoundWords.{AreWordsOf}
use Rattle.host_work.specs.Requests.{Evacuates}
use Rattle.host_work.specs.Truth.{Finds, by_truth}
use Rattle.host_work.proofs.TruthGrows.{Follows, truth_found, are_done_by}
use Rattle.report.specs.declared.report.Report.{Report}
use Rattle.report.specs.FinalPages.{final_page, pages_below, pages_state}
use Rattle.report.proofs.PageLaws.{numbers, pages_state-pages_below, rising-below}
use Rattle.machine.specs.World.{space_now, device_at}
use Rattle.machine.proofs.SpaceNow.{offline_not_out}
use Rattle.core_actors.specs.HostFound.{space_run, DriverFound, truth}
use Rattle.replay.specs.Running.{Running}
use Rattle.replay.specs.Runs.{opening, setting, shown_page, shown_below, HaveEnded, IsReportAfter}
use Rattle.report.specs.ReportOf.{plain_start, block_list, space_reported, space_told, device_start, device_reported, IsReportOf}
use Rattle.replay.specs.Keeping.{IsKept}
use Rattle.replay.proofs.Acting.{setting_fits}
use Rattle.replay.proofs.Callers.{found_at, of_owner, of_scripts}
use Rattle.replay.proofs.EndCalls.{paired_at_end}
use Rattle.replay.proofs.EndHost.{all_commands, all_numbers, all_done}
use Rattle.replay.proofs.EndedOwners.{let_go}
use Rattle.replay.proofs.EndFrames.{frames_at_end, unplugged_at_end}
use Rattle.replay.proofs.Members.{there, all_at, get_or_at, numbered_at}
use Rattle.replay.proofs.WordsTold.{opens_with, are_words_of}

-- ---- pages as the words show them

-- a word and cells that show a page are read as that page
shown-free : (o : Opening) (words : List ℕ) (page : ℕ) (m : Page) → FreeShows o words (entry_word_of words page) m → shown_page o words page ≡ m
shown-free o words page None f =
    let low = f.shows.flags in
    let off : mapped_bit (entry_word_of words page) ≢ 1 = λ e. omega arith in
    ap (λ (b : Bool). cond {A = Page} b (Some (record { cells = cells_of_frame o words (frame_of (entry_word_of words page)); kind = kind_in (entry_word_of words page); pins = pins_of (entry_word_of words page) })) None)
    (ne_eqb (mapped_bit (entry_word_of words page)) 1 off)
shown-free o words page (Some m) f =
    let w = entry_word_of words page in
    let on = f.shows.flags.0 in
    ap (λ (b : Bool). cond {A = Page} b (Some (record { cells = cells_of_frame o words (frame_of w); kind = kind_in w; pins = pins_of w })) None) (eq-eqb (mapped_bit w) 1 on)
    ∙ ap (λ (cells : List ℕ). Some (record { cells = cells; kind = kind_in w; pins = pins_of w })) (f.shows.cells on)
    ∙ ap (λ kind. Some (record { cells = m.cells; kind = kind; pins = pins_of w })) f.shows.flags.1
    ∙ ap (λ (pins : ℕ). Some (record { cells = m.cells; kind = m.kind; pins = pins })) f.shows.flags.2

shown-below : (o : Opening) (words : List ℕ) (st : PlainState) (n : ℕ) → ((q : ℕ) → q < n → shown_page o words q ≡ page_at st q) → shown_below o words n ≡ pages_below st n
shown-below o words st zero is = refl
shown-below o words st (suc n) is =
    ap (λ l. l ++ final_page n (shown_page o words n)) (shown-below o words st n (λ q lt. is q (omega arith)))
    ∙ ap (λ (m : Page). pages_below st n ++ final_page n m) (is n (omega arith))

-- ---- the report

module _ (s : Scenario) (m : Running) (r : Report) (run : IsRunnable s) (k : IsKept s m) (ended : HaveEnded m) (rep : IsReportAfter s m r) where
  abbrev o : Opening
  o = opening s

  abbrev words : List ℕ
  words = m.world.snapshot.words

  abbrev views : List View
  views = m.world.snapshot.views

  opens : IsOpeningState o (plain_start s)
  opens = opens_with s run

  -- an entry is of a page of the machine
  in_range : (j : ℕ) (e : Entry) → slice_get r.history j ≡ Some e → e.page.0 < s.geometry.pages
  in_range j e at =
      let x = of_owner s m k ended.owners r.history rep.history j e at in
      let numbered : slice_get (map numbered_call x.view.entries) x.number ≡ Some (numbered_call e) = slice_get-map numbered_call x.view.entries x.number ∙ ap (λ (q : Option Entry). option_map numbered_call q) x.here in
      let called : slice_get (get_or s.owners x.place []) x.number ≡ Some (e.page, e.call) = numbered_at 0 (script_of s.owners (suc x.place)) x.number e.call_no (e.page, e.call) (ap (λ l. slice_get l x.number) (sym x.seat.entries) ∙ numbered) in
      (all_at (IsOwnerCall s.geometry) (get_or s.owners x.place []) x.number (e.page, e.call)
      (get_or_at (λ calls. AllByRecursion (IsOwnerCall s.geometry) calls) s.owners x.place [] run.calls tt) called).page

  -- ---- the pages

  abbrev st : PlainState
  st = after_entries s.geometry.cells (plain_start s) r.history

  page_is : (page : ℕ) → page_at st page ≡ page_after o views page (0 + length r.history)
  page_is page = (from_opening o words views (plain_start s) r.history k.world.sound opens rep.history).1 page

  beyond : (page : ℕ) → s.geometry.pages ≤ page → page_at st page ≡ None
  beyond page high =
      page_is page
      ∙ page_after-quiet o views page 0 (length r.history) (λ u e low lt found q.
      let x = there r.history u (omega arith) in
      let zero_up : o.first + u ≡ u = omega arith in
      let same : x.0 ≡ e = same_Some x.0 e (sym (found_at s m k ended.owners r.history rep.history u x.0 x.1) ∙ subst (λ (n : ℕ). entry_with n views ≡ Some e) zero_up found) in
      let range = in_range u x.0 x.1 in
      let on : x.0.page.0 ≡ page = ap (λ (z : Entry). z.page.0) same ∙ q in omega arith)
      ∙ get_or_past (start_pages s.geometry s.start) page None (let n = length-start_pages s.geometry s.start in omega arith)

  mapped_below : (page : ℕ) (p : PlainPage) → page_at st page ≡ Some p → page < s.geometry.pages
  mapped_below page p is = dite (dec_le s.geometry.pages page)
      (λ high. absurd (none-some p (sym (beyond page high) ∙ is)))
      (λ low. omega arith)

  shows : (page : ℕ) → page < s.geometry.pages → FreeShows o words (entry_word_of words page) (page_at st page)
  shows page lt = words_show_the_history o words views (plain_start s) r.history k.world.sound opens rep.history (let_go s m k ended) page lt

  pages : r.pages ≡ pages_below st s.geometry.pages
  pages = rep.pages ∙ shown-below o words st s.geometry.pages (λ page lt. shown-free o words page (page_at st page) (shows page lt))

  -- ---- the frames

  frames : AreOutForPages (space_reported s r) st
  frames =
      subst (λ (journal : List SpaceAction). AreOutForPages (space_after s.geometry (online_of s) (space_at_start s.geometry s.start) journal) st) (sym rep.space)
      (frames_at_end s m run k ended st shows mapped_below)

  offline : AreUnplugged s.geometry (space_reported s r) r.plugged
  offline =
      subst (λ (journal : List SpaceAction). AreUnplugged s.geometry (space_after s.geometry (online_of s) (space_at_start s.geometry s.start) journal) r.plugged) (sym rep.space)
      (subst (λ (plugged : List BlockNo). AreUnplugged s.geometry (space_now (setting s) m.world) plugged) (sym rep.plugged) (unplugged_at_end s m k ended))

  -- ---- the host and the device

  commands : map (λ x. x.command) r.host ≡ s.host
  commands = subst (λ (runs : List HostRun). map (λ x. x.command) runs ≡ s.host) (sym rep.host) (all_commands s m k.host ended.host)

  command_numbers : map (λ x. x.line.no) r.host ≡ range_with_len 0 (length s.host)
  command_numbers = subst (λ (runs : List HostRun). map (λ x. x.line.no) runs ≡ range_with_len 0 (length s.host)) (sym rep.host) (all_numbers s m k.host ended.host)

  -- what an evacuation may have done: by the frame space and the words of the run, and by those reported
  abbrev words_told : Finds
  words_told = AreWordsOf s.geometry (plain_start s) r.history

  abbrev truth_told : Evacuates
  truth_told = by_truth (space_told s r) words_told

  follows : Follows (truth (setting s) m.world) truth_told
  follows =
      subst (λ (journal : List SpaceAction). Follows (truth (setting s) m.world) (by_truth (record { sizes = s.geometry; online = online_of s; start = space_at_start s.geometry s.start; journal = journal }) words_told)) (sym rep.space)
      (truth_found (space_run (setting s) m.world) (DriverFound m.world) words_told (are_words_of s m r run k ended rep))

  pub did_in_run : AreDoneBy (truth (setting s) m.world) [] s.geometry (device_start s) r.host (actions_of 0 r.space_journal) r.device_journal
  did_in_run =
      subst (λ (runs : List HostRun). AreDoneBy (truth (setting s) m.world) [] s.geometry (device_start s) runs (actions_of 0 r.space_journal) r.device_journal) (sym rep.host)
      (subst (λ (journal : List SpaceAction). AreDoneBy (truth (setting s) m.world) [] s.geometry (device_start s) (host_runs s.host m.lines) (actions_of 0 journal) r.device_journal) (sym rep.space)
      (subst (λ (journal : List DeviceAction). AreDoneBy (truth (setting s) m.world) [] s.geometry (device_start s) (host_runs s.host m.lines) (actions_of 0 m.world.space) journal) (sym rep.device)
      (all_done s m k.host ended.host)))

  did : AreDoneBy truth_told [] s.geometry (device_start s) r.host (actions_of 0 r.space_journal) r.device_journal
  did = are_done_by (truth (setting s) m.world) truth_told follows [] s.geometry (device_start s) r.host (actions_of 0 r.space_journal) r.device_journal did_in_run

  answered : AreAnswered s.geometry (device_start s) (first_of_calls s.fails) r.device_journal
  answered = subst (λ (journal : List DeviceAction). AreAnswered s.geometry (device_start s) (first_of_calls s.fails) journal) (sym rep.device) k.world.answered

  no_notices : AllByRecursion (λ a. a.notices ≡ []) r.device_journal
  no_notices = subst (λ (journal : List DeviceAction). AllByRecursion (λ a. a.notices ≡ []) journal) (sym rep.device) k.host.kept.did.no_notices

  plugged : r.plugged ≡ block_list (device_reported s r).plugged
  plugged = rep.plugged ∙ ap (λ (journal : List DeviceAction). block_list (device_at s.geometry journal).plugged) (sym rep.device)

  -- ---- no frame of an offline block is out

  abbrev IsEmptied : SpaceState → Type 0
  IsEmptied space = (frame : ℕ) → is_frame_in s.geometry space.offline frame ≡ true → out_for space frame ≡ None

  no_unplugged : IsEmptied (space_reported s r)
  no_unplugged =
      subst (λ (journal : List SpaceAction). IsEmptied (space_after s.geometry (online_of s) (space_at_start s.geometry s.start) journal)) (sym rep.space)
      (offline_not_out (setting s) m.world (setting_fits s run) k.world)

  pub reports_tell_legal_histories : IsReportOf s r
  reports_tell_legal_histories = record {
    calls = record {
      legal = histories_are_legal o words views (plain_start s) r.history k.world.sound opens rep.history;
      scripts = of_scripts s m k ended.owners r.history rep.history;
      pages = ap pages_state pages ∙ pages_state-pages_below st s.geometry.pages beyond;
      rising = subst (λ ps. IsStrictlyIncreasing (numbers ps)) (sym pages) (rising-below st s.geometry.pages).0;
    };
    frames = record {
      space = paired_at_end s m r run k ended.owners rep;
      out = frames;
      offline = offline;
      no_unplugged = no_unplugged;
    };
    host = record { commands = commands; numbers = command_numbers; did = did; answered = answered; no_notices = no_notices; plugged = plugged };
  }
