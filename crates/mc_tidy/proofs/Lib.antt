mod TidyLemmas
