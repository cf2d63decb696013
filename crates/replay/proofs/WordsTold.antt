-- What the words that the driver's takes found tell of the history, once the owners and the host of a run have ended.
use Rattle.std.proofs.Common.{◌≡◌, ℕ, ◌-◌, take, sym, ap, ◌∙◌, subst, inl, inr, ⊎_elim, arith}
use Rattle.std.specs.List.{slice_index}
use Rattle.evac_model.specs.declared.names.PageNo.{PageNo}
use Rattle.evac_model.specs.declared.scenario.Scenario.{Scenario}
use Rattle.evac_model.specs.History.{after_entries}
use Rattle.evac_model.specs.Scenarios.{IsRunnable}
use Rattle.evac_model.specs.State.{page_at}
use Rattle.evac_model.proofs.Lists.{get_or-replicate_same}
use Rattle.evac_model.proofs.Tables.{get-table_map}
use Rattle.evac_words.specs.Word.{taken_bit, bound_of}
use Rattle.core_state.specs.declared.noticed.Notice.{Notice}
use Rattle.core_state.specs.CoreOpens.{start_pages}
use Rattle.core_state.specs.Histories.{IsOpeningState}
use Rattle.core_state.specs.NoticedHistory.{BoundByEntry, AnsweredSince, ShowsPage, TellsHistory}
use Rattle.core_state.specs.Views.{Has, view_of}
use Rattle.core_state.proofs.CoreRooms.{start_pages_plain}
use Rattle.core_state.proofs.NoticedHistory.{noticed_words_tell_the_history, taken_words_are_followed}
use Rattle.core_state.proofs.Rooms.{seat_has}
use Rattle.host_work.specs.FoundWords.{word_notice, AreWordsOf}
use Rattle.core_actors.specs.HostFound.{DriverFound}
use Rattle.report.specs.declared.report.Report.{Report}
use Rattle.report.specs.ReportOf.{plain_start}
use Rattle.replay.specs.Keeping.{IsKept}
use Rattle.replay.specs.Running.{Running}
use Rattle.replay.specs.Runs.{opening, HaveEnded, IsReportAfter}
use Rattle.replay.proofs.EndedOwners.{let_go}

-- a scenario's plain start has the pages that its machine is opened with
pub opens_with : (s : Scenario) → IsRunnable s → IsOpeningState (opening s) (plain_start s)
opens_with s run page = ap (λ st. page_at st page) (sym (start_pages_plain s.geometry s.start run.start.each)) ∙ get-table_map (start_pages s.geometry s.start) page

module _ (s : Scenario) (m : Running) (r : Report) (run : IsRunnable s) (k : IsKept s m) (ended : HaveEnded m) (rep : IsReportAfter s m r) where
  driver_there : Has m.world.snapshot.views 0 (view_of m.world.snapshot.views 0)
  driver_there = seat_has m.world.snapshot.views 0 (let seats = k.world.seats in omega arith)

  module _ (number : ℕ) (page : PageNo) (word : ℕ) (found : DriverFound m.world number page word) where
    -- the notice of the take
    abbrev c : Notice
    c = record { page = page; word = word; known = found.0 }

    tells : TellsHistory (opening s) (plain_start s) r.history c
    tells = noticed_words_tell_the_history (opening s) m.world.snapshot.words m.world.snapshot.views (plain_start s) r.history 0 (view_of m.world.snapshot.views 0) c
        k.world.sound (opens_with s run) rep.history driver_there (inl (number, found.1))

    followed : taken_bit word ≡ 1 → AnsweredSince r.history c
    followed taken = taken_words_are_followed (opening s) m.world.snapshot.words m.world.snapshot.views r.history 0 (view_of m.world.snapshot.views 0) c
        k.world.sound rep.history (let_go s m k ended) driver_there (number, found.1) taken

    -- at the start all bounds are 0, and so is the first ticket
    no_bound : slice_index (opening s).bounds page.0 ≡ 0
    no_bound = get_or-replicate_same s.geometry.pages page.0 0

    none_before : bound_of word - (opening s).first ≡ bound_of word
    none_before = omega arith

    bound_by : BoundByEntry r.history c → BoundByEntry r.history (word_notice page word)
    bound_by b = record { place = b.place; entry = b.entry; at = b.at; on = b.on; next = b.next }

    answered : AnsweredSince r.history c → AnsweredSince r.history (word_notice page word)
    answered a = record { place = a.place; entry = a.entry; at = a.at; on = a.on; late = a.late }

    -- a word that a take of the driver's found is one of the history reported
    pub are_words_of : AreWordsOf s.geometry (plain_start s) r.history number page word
    are_words_of = record {
      in_range = tells.in_range;
      bound_is = ⊎_elim (λ first. inl (first ∙ no_bound)) (λ b. inr (bound_by b)) tells.bound_is;
      bound_low = let low = tells.bound_low in omega arith;
      free = λ free. subst (λ (n : ℕ). ShowsPage word (page_at (after_entries s.geometry.cells (plain_start s) (take n r.history)) page.0)) none_before (tells.free free);
      taken = λ taken. answered (followed taken);
    }
