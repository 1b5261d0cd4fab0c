mod Nine
