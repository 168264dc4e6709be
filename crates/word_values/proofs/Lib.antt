mod SeedLemmas
