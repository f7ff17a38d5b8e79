mod Watched
