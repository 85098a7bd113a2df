-- What holds after every call of a history, and a history that grows by one call. Assumes nothing.
use Rattle.std.proofs.Common.{ℕ, Bool, List, [], ◌∷◌, ◌++◌}
use Rattle.orderings.specs.Answer.{Answer}
use Rattle.sheets.specs.Book.{Book, Call, Follows, Answered, fresh}
use Rattle.sheets.specs.History.{Run, over, next, LawfulCall, LawfulCalls, History, and_then, OpenedThenWentThrough, HoldsAfterEveryCall}
use Rattle.sheets.proofs.Sound.{a_fresh_book_is_sound, a_reached_book_is_sound}
use Rattle.sheets.proofs.Laws.{no_false_none, one_cone_for_each_multiple, locating_names_that_cone, locating_finds_no_other, janet_like_completes_too}
use Rattle.sheets.proofs.Once.{one_run}

module _ {admits : ℕ → Bool} {h : History} {b : Book} (reached : OpenedThenWentThrough admits h b) where
  pub holds_after_every_call : HoldsAfterEveryCall admits h b
  holds_after_every_call =
      let begun = a_fresh_book_is_sound admits h.variables h.places reached.variable_count reached.place_count in
      let sound = a_reached_book_is_sound reached in
      record {
        no_other_outcome = λ others c other. one_run (fresh admits h.variables h.places) b c h.calls h.answers others
            begun reached.lawful reached.run other;
        no_false_none = no_false_none b sound;
        one_cone_for_each_multiple = one_cone_for_each_multiple b sound;
        locating_names_that_cone = locating_names_that_cone b sound;
        locating_finds_no_other = locating_finds_no_other b sound;
        janet_like_completes_too = janet_like_completes_too b sound;
      }

  -- one call more
  pub reached_by : (c : Book) (call : Call) (told : Answer) → LawfulCall call → Answered b call told →
      Follows b call c → OpenedThenWentThrough admits (and_then h call told) c
  reached_by c call told law answered follows =
      record {
        variable_count = reached.variable_count;
        place_count = reached.place_count;
        lawful =
            lawful_push h.calls reached.lawful;
        run = run_push reached.run;
      }
    where
      lawful_push : (xs : List Call) → LawfulCalls xs → LawfulCalls (xs ++ call ∷ [])
      lawful_push [] laws = (law, tt)
      lawful_push (x ∷ xs) laws = (laws.0, lawful_push xs laws.1)

      run_push : {d : Book} {xs : List Call} {ys : List Answer} → Run d xs ys b →
          Run d (xs ++ call ∷ []) (ys ++ told ∷ []) c
      run_push over = next answered follows over
      run_push (next t f run) = next t f (run_push run)
