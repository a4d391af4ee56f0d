-- The loops over searches and over rounds, and a body's parts one after the other.
use Rattle.std.proofs.Common.{◌≡◌, ℕ, ◌<◌, true, false, List, [], ◌∷◌, ◌++◌, length, refl, ap, ◌∙◌, Ok, Err}
use Rattle.ci_reading.specs.LineReading.{◌>>=◌, view, begins_with, with_front}
use Rattle.ci_reading.proofs.Repetitions.{next_item, item_stops, no_item}
use Rattle.ci_log.specs.declared.book.Entry.{Entry}
use Rattle.ci_log.specs.declared.book.Finish.{Finish}
use Rattle.ci_log.specs.declared.faults.Failure.{Failure}
use Rattle.ci_log.specs.declared.faults.Failure.TheVariants as failure
use Rattle.ci_log.specs.Books.{Book}
use Rattle.ci_log.specs.declared.book.Version.{Version}
use Rattle.ci_log.specs.private.Reading.{Fails, Read, stop_seen}
use Rattle.ci_log.specs.private.BookReading.{take, search, round, finish, one_search, searches, rounds, body}

module _ (version : Version) (so_far : List Entry) (xs : List ℕ) where
  pub next_search : (s : Entry) (after : List ℕ) → begins_with 98 xs ≡ true → search version xs ≡ Ok (s, after) → length after < length xs
      → with_front (so_far ++ s ∷ []) (searches version after) ≡ with_front so_far (searches version xs)
  next_search s after begun read less = next_item _ (one_search version) so_far (s ∷ []) xs after begun (ap (view (λ s. s ∷ [])) read) less

  pub search_fails : (f : Failure) → begins_with 98 xs ≡ true → Fails f (search version xs) → Fails f (with_front so_far (searches version xs))
  search_fails failure.NoMemory begun fails = tt
  search_fails (failure.Stopped s) begun fails = item_stops _ (one_search version) so_far xs (stop_seen s) begun (ap (view (λ s. s ∷ [])) fails)

  pub no_search : begins_with 98 xs ≡ false → with_front so_far (searches version xs) ≡ Ok (so_far, xs)
  no_search ended = no_item _ (one_search version) so_far xs ended

  pub next_round : (t s : Entry) (mid after : List ℕ) → begins_with 116 xs ≡ true → take xs ≡ Ok (t, mid)
      → search version mid ≡ Ok (s, after) → length after < length xs
      → with_front (so_far ++ t ∷ s ∷ []) (rounds version after) ≡ with_front so_far (rounds version xs)
  unfolding round
  next_round t s mid after begun first second less =
      next_item _ (round version) so_far (t ∷ s ∷ []) xs after begun
      (ap (λ r. r >>= λ t. view (λ s. t.0 ∷ s ∷ []) (search version t.1)) first
      ∙ ap (view (λ s. t ∷ s ∷ [])) second) less

  pub take_fails : (f : Failure) → begins_with 116 xs ≡ true → Fails f (take xs) → Fails f (with_front so_far (rounds version xs))
  unfolding round
  take_fails failure.NoMemory begun fails = tt
  take_fails (failure.Stopped s) begun fails =
      item_stops _ (round version) so_far xs (stop_seen s) begun
      (ap (λ r. r >>= λ t. view (λ s. t.0 ∷ s ∷ []) (search version t.1)) fails)

  pub round_fails : (f : Failure) (t : Entry) (mid : List ℕ) → begins_with 116 xs ≡ true → take xs ≡ Ok (t, mid)
      → Fails f (search version mid) → Fails f (with_front so_far (rounds version xs))
  unfolding round
  round_fails failure.NoMemory t mid begun first fails = tt
  round_fails (failure.Stopped s) t mid begun first fails =
      item_stops _ (round version) so_far xs (stop_seen s) begun (ap (λ r. r >>= λ t. view (λ s. t.0 ∷ s ∷ []) (search version t.1)) first ∙ ap (view (λ s. t ∷ s ∷ [])) fails)

  pub no_round : begins_with 116 xs ≡ false → with_front so_far (rounds version xs) ≡ Ok (so_far, xs)
  no_round ended = no_item _ (round version) so_far xs ended

-- ---- a body

abbrev finished : Read (List Entry) → Read Book
finished q = q >>= λ r. view (λ f. record { entries = r.0; finish = f }) (finish r.1)

module _ (version : Version) (xs mid : List ℕ) (s : List Entry) (read : searches version xs ≡ Ok (s, mid)) where
  body_step : body version xs ≡ finished (with_front s (rounds version mid))
  unfolding body
  body_step = ap (λ q. q >>= λ s. rounds version s.1 >>= λ r. finish r.1 >>= λ f. Ok (record { entries = s.0 ++ r.0; finish = f.0 }, f.1)) read ∙ by (rounds version mid)
    where
      by : (q : Read (List Entry)) → (q >>= λ r. finish r.1 >>= λ f. Ok (record { entries = s ++ r.0; finish = f.0 }, f.1)) ≡ finished (with_front s q)
      by (Ok r) = refl
      by (Err t) = refl

  pub rounds_fail : (f : Failure) → Fails f (with_front s (rounds version mid)) → Fails f (body version xs)
  rounds_fail failure.NoMemory fails = tt
  rounds_fail (failure.Stopped t) fails = body_step ∙ ap finished fails

  module _ (es : List Entry) (rest : List ℕ) (next : with_front s (rounds version mid) ≡ Ok (es, rest)) where
    finishes : body version xs ≡ view (λ f. record { entries = es; finish = f }) (finish rest)
    finishes = body_step ∙ ap finished next

    pub finish_fails : (f : Failure) → Fails f (finish rest) → Fails f (body version xs)
    finish_fails failure.NoMemory fails = tt
    finish_fails (failure.Stopped t) fails = finishes ∙ ap (view (λ f. record { entries = es; finish = f })) fails

    pub body_reads : (f : Finish) (after : List ℕ) → finish rest ≡ Ok (f, after) → body version xs ≡ Ok (record { entries = es; finish = f }, after)
    body_reads f after last = finishes ∙ ap (view (λ f. record { entries = es; finish = f })) last
